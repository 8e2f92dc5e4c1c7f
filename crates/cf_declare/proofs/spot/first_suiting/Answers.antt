use Rattle.std.proofs.Common.{◌∙◌, ◌==◌, ◌&&◌, ℕ, List, ap, sym}
use Rattle.cf_types.specs.declared.instance.Target.{Target}
use Rattle.cf_names.specs.Spots.{all_spots, first_spot}
use Rattle.config_rules.specs.Joined.{suits}
use Rattle.cf_declare.specs.FirstSpots.{offered}
use Rattle.cf_declare.proofs.SpotLemmas.{first_same, suits_below, suits_on, suits_root}
use Rattle.cf_declare.proofs.spot.first_suiting.Goals as goal

pub returns-in-AtRoot : goal.returns-in-AtRoot
returns-in-AtRoot c =
    let d = c.args.declared.now in
    c.first_at.ensures (all_spots d.attaches) c.requires.spots
    ∙ first_same _ _ (λ s. ap (λ b. (s.key.device == c.args.device) && b) (suits_root d s.key.place)) (all_spots d.attaches)
    ∙ ap (λ (t : Target). first_spot (λ s. (s.key.device == c.args.device) && suits d t s.key.place) (all_spots d.attaches)) (sym c.in-AtRoot.is)

pub returns-in-On : goal.returns-in-On
returns-in-On c =
    let d = c.args.declared.now in
    c.first_at-in-On.ensures (all_spots d.attaches) c.requires.spots
    ∙ first_same _ _ (λ s. ap (λ b. (s.key.device == c.args.device) && b) (suits_on d c.in-On.attr s.key.place)) (all_spots d.attaches)
    ∙ ap (λ (t : Target). first_spot (λ s. (s.key.device == c.args.device) && suits d t s.key.place) (all_spots d.attaches)) (sym c.in-On.is)

pub returns-in-Below : goal.returns-in-Below
returns-in-Below c =
    let d = c.args.declared.now in
    c.first_offered.ensures (all_spots d.attaches) c.requires.spots
    ∙ ap (λ (attrs : List ℕ). first_spot (λ s. (s.key.device == c.args.device) && offered attrs s.key.place) (all_spots d.attaches)) c.interfaces_of.ensures
    ∙ first_same _ _ (λ s. ap (λ b. (s.key.device == c.args.device) && b) (suits_below d c.in-Below.parent s.key.place)) (all_spots d.attaches)
    ∙ ap (λ (t : Target). first_spot (λ s. (s.key.device == c.args.device) && suits d t s.key.place) (all_spots d.attaches)) (sym c.in-Below.is)
