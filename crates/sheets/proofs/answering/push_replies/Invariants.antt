use Rattle.std.proofs.Common.{◌≡◌, ◌++◌, drop}
use Rattle.sheets.specs.Replies.{AllFew}
use Rattle.sheets.specs.Waiting.{reply_rows}
use Rattle.sheets.proofs.answering.push_replies.Given as goal

-- The replies that are left are still to be written.
abbrev pub invariant-loop-reply : goal.invariant-loop-reply
invariant-loop-reply l =
    AllFew (drop l.reply-index l.replies)
    × (l.rows.items ++ reply_rows (drop l.reply-index l.replies) ≡ l.initial.rows.items ++ reply_rows l.replies)
