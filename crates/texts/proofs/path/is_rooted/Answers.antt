use Rattle.std.proofs.Common.{sym, ◌∙◌, arith}
use Rattle.std.proofs.lemmas.Bool.{ltb-false, ltb-true}
use Rattle.texts.proofs.PartLoops.{unrooted, rooted_split}
use Rattle.texts.proofs.path.is_rooted.Goals as goal

pub returns-in-47 : goal.returns-in-47
returns-in-47 c = record { names_behind_a_leading_slash = c.names_only.ensures.every_piece_is_a_name ∙ rooted_split c.args.text.now (omega (arith, ltb-false)) (omega arith) }

pub returns-in_default : goal.returns-in_default
returns-in_default c = record { names_behind_a_leading_slash = sym (unrooted c.args.text.now (λ h e. omega (arith, ltb-true))) }

pub returns-in_default-2 : goal.returns-in_default-2
returns-in_default-2 c = record { names_behind_a_leading_slash = sym (unrooted c.args.text.now (λ h e. omega arith)) }
