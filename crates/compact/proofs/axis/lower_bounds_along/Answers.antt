use Rattle.std.proofs.Common.{◌∙◌, ◌≡◌, ℕ, List, length, arith, subst, sym}
use Rattle.std.proofs.lemmas.List.{take_at}
use Rattle.dissect.specs.Boxes.{dart_map}
use Rattle.compact.specs.Monotone.{IsAlong, growth}
use Rattle.compact.specs.Neighbours.{neighbour, AreUnder, StayUnder}
use Rattle.compact.proofs.Stepping.{grow_ahead, equal_across, growth_few, across_far, zeros_under}
use Rattle.compact.proofs.axis.lower_bounds_along.Goals as goal

pub returns-clause-under : goal.returns-clause-under
returns-clause-under c = λ y along.
    let w = dart_map c.args.boxes.now in
    let n = c.args.boxes.now.vertices in
    let around = c.args.around.now in
    let neighbours = c.along.result in
    let told = c.along.ensures in
    let k = growth c.args.axis in
    let are = c.requires.neighbours in
    let sound = c.vertices.ensures.boxes.sound in
    let left = told.left.1 in
    let far = across_far c.args.axis in
    let size : length c.deref_mut.result.now ≡ n = omega (arith, c.deref_mut.ensures.len, c.in_ok-coordinates.ensures.len, c.vertices.ensures.value) in
    let blank = c.deref_mut.ensures.value ∙ c.in_ok-coordinates.ensures.items in
    let raised : StayUnder n (neighbour around neighbours.ahead) (neighbour around neighbours.left) c.deref_mut.result.now c.raise_to_longest_paths.new.coordinates =
    subst (λ (list : List ℕ). StayUnder n (neighbour list neighbours.ahead) (neighbour list neighbours.left) c.deref_mut.result.now c.raise_to_longest_paths.new.coordinates) told.around
    (subst (λ (m : ℕ). StayUnder m (neighbour neighbours.around.now neighbours.ahead) (neighbour neighbours.around.now neighbours.left) c.deref_mut.result.now c.raise_to_longest_paths.new.coordinates) size c.raise_to_longest_paths.ensures.under) in
    let here : IsAlong w neighbours.ahead y = subst (λ (d : ℕ). IsAlong w d y) (sym told.ahead.1) along in
    subst (λ (xs : List ℕ). AreUnder n xs y)
    (sym (take_at c.raise_to_longest_paths.new.coordinates _ c.in_ok-coordinates.coordinates.len (omega (arith, c.raise_to_longest_paths.ensures.count, c.deref_mut.ensures.len))))
    (raised y
    (grow_ahead w neighbours.ahead around n y told.ahead.0 are here)
    (equal_across w k neighbours.left around n y sound (growth_few c.args.axis) told.left.0 (λ e. far.0 (sym left ∙ e)) (λ e. far.1 (sym left ∙ e)) are along)
    (zeros_under c.deref_mut.result.now _ n y blank size))
