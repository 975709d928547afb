use Rattle.std.proofs.Common.{sym, ap, ◌∙◌, subst, length, map, IsPermutation}
use Rattle.std.proofs.lemmas.Result.{IfOk-weaker}
use Rattle.cs_paths.specs.PathOrders.{AreInOrder, ArePlaces, paths_of_places, position_by}
use Rattle.cs_paths.proofs.Sorted.{place_in, places_are, places_ordered}
use Rattle.cs_paths.proofs.climbing.places_by_path.Goals as goal

pub returns-clause-each : goal.returns-clause-each
returns-clause-each c =
    let es = c.args.entries.now in
    let at = position_by es c.args.positions.now in
    let sorted = c.sort.new.self.items in
    let moved : IsPermutation (paths_of_places at c.args.deep es 0) sorted =
    subst (λ xs. IsPermutation xs sorted) c.in_ok-paths.ensures c.in_ok-sort.ensures.permutation in
    IfOk-weaker c.places_of.result _ _ (λ places h.
    subst (ArePlaces (length es)) (sym (h ∙ ap (map place_in) c.deref.ensures.value))
    (places_are at c.args.deep es sorted moved))
    c.places_of.ensures

pub returns-clause-order : goal.returns-clause-order
returns-clause-order c =
    let es = c.args.entries.now in
    let at = position_by es c.args.positions.now in
    let sorted = c.sort.new.self.items in
    let moved : IsPermutation (paths_of_places at c.args.deep es 0) sorted =
    subst (λ xs. IsPermutation xs sorted) c.in_ok-paths.ensures c.in_ok-sort.ensures.permutation in
    IfOk-weaker c.places_of.result _ _ (λ places h.
    subst (AreInOrder at c.args.deep es) (sym (h ∙ ap (map place_in) c.deref.ensures.value))
    (places_ordered at c.args.deep es sorted moved c.in_ok-sort.ensures.sorted))
    c.places_of.ensures
