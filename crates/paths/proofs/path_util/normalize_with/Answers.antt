use Rattle.std.proofs.Common.{cond, length, Some, None, sym, ◌∙◌}
use Rattle.texts.specs.Texts.{buffer_with, length_in}
use Rattle.paths.proofs.JoinLaws.{join_clean, join_keeps, join_short, join_whole}
use Rattle.paths.proofs.path_util.normalize_with.Goals as goal

pub returns-then-not-is_relative-clause-length_of_the_joined_text : goal.returns-then-not-is_relative-clause-length_of_the_joined_text
returns-then-not-is_relative-clause-length_of_the_joined_text c =
    let j = join_whole c.args.base.now c.args.more.now (sym c.if-not-is_relative.ensures.neither_empty_nor_rooted) in
    c.copy_short.ensures.length_if_it_fits ∙ (λ i. length_in (cond (sym j.1 i) (Some (sym j.0 i)) None) (length c.args.out.now))

pub returns-then-not-is_relative-clause-joined_text_in_front : goal.returns-then-not-is_relative-clause-joined_text_in_front
returns-then-not-is_relative-clause-joined_text_in_front c =
    let j = join_whole c.args.base.now c.args.more.now (sym c.if-not-is_relative.ensures.neither_empty_nor_rooted) in
    c.copy_short.ensures.text_in_front_if_it_fits ∙ (λ i. buffer_with (cond (sym j.1 i) (Some (sym j.0 i)) None) c.args.out.now)

pub returns-then-not-is_relative-clause-clean_stays_clean : goal.returns-then-not-is_relative-clause-clean_stays_clean
returns-then-not-is_relative-clause-clean_stays_clean c = join_clean c.args.base.now c.args.more.now

pub returns-then-not-is_relative-clause-directory_stays_in_front : goal.returns-then-not-is_relative-clause-directory_stays_in_front
returns-then-not-is_relative-clause-directory_stays_in_front c = join_keeps c.args.base.now c.args.more.now

pub returns-then-not-is_relative-clause-short_texts_always_join : goal.returns-then-not-is_relative-clause-short_texts_always_join
returns-then-not-is_relative-clause-short_texts_always_join c = join_short c.args.base.now c.args.more.now

pub returns-in_err-ok-clause-clean_stays_clean : goal.returns-in_err-ok-clause-clean_stays_clean
returns-in_err-ok-clause-clean_stays_clean c = join_clean c.args.base.now c.args.more.now

pub returns-in_err-ok-clause-directory_stays_in_front : goal.returns-in_err-ok-clause-directory_stays_in_front
returns-in_err-ok-clause-directory_stays_in_front c = join_keeps c.args.base.now c.args.more.now

pub returns-in_err-ok-clause-short_texts_always_join : goal.returns-in_err-ok-clause-short_texts_always_join
returns-in_err-ok-clause-short_texts_always_join c = join_short c.args.base.now c.args.more.now

pub returns-clause-clean_stays_clean : goal.returns-clause-clean_stays_clean
returns-clause-clean_stays_clean c = join_clean c.args.base.now c.args.more.now

pub returns-clause-directory_stays_in_front : goal.returns-clause-directory_stays_in_front
returns-clause-directory_stays_in_front c = join_keeps c.args.base.now c.args.more.now

pub returns-clause-short_texts_always_join : goal.returns-clause-short_texts_always_join
returns-clause-short_texts_always_join c = join_short c.args.base.now c.args.more.now
