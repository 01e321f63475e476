use Rattle.std.proofs.Common.{◌∙◌, rules}
use Rattle.texts.specs.Held.{bytes_of}
use Rattle.mount.specs.Mounts.{mounted}
use Rattle.piles.proofs.Heights.{every_pile_is_proper}
use Rattle.piles.proofs.boxed.pile_up.Goals as goal

pub returns-in-Ok : goal.returns-in-Ok
returns-in-Ok g c =
    let both = c.in-Ok.ensures.mounted_or_both_handed_back in
    record {
      mounted_at_a_clean_short_path = search rules;
      means_what_the_pile_means = (λ i. mounted (bytes_of (c.new-in-Ok.ensures.below_as_given i).at) (g.A.FileTree.meaning (c.new-in-Ok.ensures.below_as_given i).first.below) (g.B.FileTree.meaning (c.new-in-Ok.ensures.below_as_given i).second))
          ∙ (λ i. mounted (both.2 i) (g.A.FileTree.meaning (both.0 i).below) (g.B.FileTree.meaning (both.1 i)))
          ∙ (λ i. mounted c.args.at.now (g.A.FileTree.meaning (c.new.ensures.below_as_given i)) (g.B.FileTree.meaning c.args.card));
      hosts_and_path_as_given = (
        (λ i. (c.new-in-Ok.ensures.below_as_given i).first.below) ∙ (λ i. (both.0 i).below) ∙ c.new.ensures.below_as_given,
        (λ i. (c.new-in-Ok.ensures.below_as_given i).second) ∙ both.1,
        (λ i. bytes_of (c.new-in-Ok.ensures.below_as_given i).at) ∙ both.2,
      );
      sound_as_a_layer = c.new-in-Ok.ensures.sound_as_a_layer;
      every_pile_is_proper = every_pile_is_proper;
    }

pub returns-in-Err : goal.returns-in-Err
returns-in-Err g c =
    let back = c.in-Err.ensures.mounted_or_both_handed_back in
    record {
      mounted_at_a_clean_short_path = search rules;
      means_what_the_pile_means = (c.into_below.ensures.gives_the_host_below ∙ (λ i. (back.0 i).below) ∙ c.new.ensures.below_as_given, back.1);
      hosts_and_path_as_given = tt;
      sound_as_a_layer = tt;
      every_pile_is_proper = every_pile_is_proper;
    }
