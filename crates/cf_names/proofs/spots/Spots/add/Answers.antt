use Rattle.std.proofs.Common.{◌≡◌, ◌∙◌, ◌+◌, ◌++◌, ◌∷◌, [], List, ap, sym, subst, get_or, map, take, append_assoc, append-nil}
use Rattle.std.proofs.lemmas.List.{map_more, take_all}
use Rattle.cf_types.specs.declared.tables.Place.TheVariants.{Root}
use Rattle.cf_names.specs.Spots.{AreSpots, Spot, spot_at}
use Rattle.cf_names.proofs.spots.Spots.add.Goals as goal

pub loop-place-init : goal.loop-place-init
loop-place-init c = λ all are. subst (AreSpots c.args.self.now) (sym (append-nil all)) are

pub loop-place-preserved : goal.loop-place-preserved
loop-place-preserved c = λ all are.
    let i = c.loop-place.place-index in
    let places = c.args.places.now in
    let place = get_or places i Root in
    let spot = spot_at c.args.device c.args.attach in
    let more : ◌≡◌ {A = List Spot} ((all ++ map spot (take i places)) ++ spot place ∷ []) (all ++ map spot (take (i + 1) places)) =
    append_assoc all (map spot (take i places)) (spot place ∷ [])
    ∙ ap (λ (spots : List Spot). all ++ spots) (sym (map_more spot places i Root c.loop-place-test.true)) in
    subst (AreSpots c.add_spot.new.spots) more (c.in_ok-add_spot.ensures (all ++ map spot (take i places)) (c.loop-place.invariant all are))

pub returns : goal.returns
returns c = λ all are.
    subst (λ (spots : List Spot). AreSpots c.loop-place.self spots)
    (ap (λ places. all ++ map (spot_at c.args.device c.args.attach) places) (take_all c.loop-place.place-index c.args.places.now c.loop-place-test.false))
    (c.loop-place.invariant all are)
