use Rattle.std.proofs.Common.{◌≡◌, ℕ, suc, ◌+◌, ◌-◌, ◌<◌, ◌≤◌, List, [], length, get_or, sym, ap, ◌∙◌, subst, arith}
use Rattle.std.specs.List.{Contains}
use Rattle.embedding.specs.Lists.{list_of}
use Rattle.embedding.specs.Darts.{first_dart}
use Rattle.embedding.specs.Rules.{KeepsBefore}
use Rattle.embedding.proofs.Entries.{stands_below}
use Rattle.embedding.proofs.KeptFacts.{list_of-short}
use Rattle.embedding.proofs.Rotation.{list_of-place, listed_back}
use Rattle.embedding.proofs.Building.{reverse_found}
use Rattle.embedding.proofs.combinatorial_map.reverse_between.Goals as goal

-- the list of a vertex that is listed stands at a place of the lists, and names the tail back
record IsListed (g : List (List ℕ)) (tail head : ℕ) : Type 0 where
  pub vertex : head ≡ suc (head - 1)
  pub list : head - 1 < length g
  pub back : Contains (get_or g (head - 1) []) tail
  pub short : length (get_or g (head - 1) []) ≤ 4

listed : (g : List (List ℕ)) → KeepsBefore g 8 → (tail head : ℕ) → Contains (list_of g tail) head → IsListed g tail head
listed g rules tail head there =
    let back = listed_back g rules tail head there in
    let (i, inside, entry) = back in
    let (m, vertex, list) = list_of-place g head i inside in
    let place : head - 1 ≡ m = omega arith in
    let same : list_of g head ≡ get_or g (head - 1) [] = ap (list_of g) vertex ∙ ap (λ (k : ℕ). get_or g k []) (sym place) in
    record {
      vertex = omega arith;
      list = omega arith;
      back = subst (λ (l : List ℕ). Contains l tail) same back;
      short = omega (arith, ap length same, list_of-short g rules head);
    }

pub overflow_sub-head : goal.overflow_sub-head
overflow_sub-head c =
    let l = listed c.args.lists.now c.requires.rules c.args.tail c.args.head c.requires.listed in
    omega (arith, l.vertex)

pub overflow_sub-head-2 : goal.overflow_sub-head-2
overflow_sub-head-2 c =
    let l = listed c.args.lists.now c.requires.rules c.args.tail c.args.head c.requires.listed in
    omega (arith, l.vertex)

pub first_dart-requires : goal.first_dart-requires
first_dart-requires c =
    let l = listed c.args.lists.now c.requires.rules c.args.tail c.args.head c.requires.listed in
    l.list

pub place_in-requires-clause-within : goal.place_in-requires-clause-within
place_in-requires-clause-within c =
    let l = listed c.args.lists.now c.requires.rules c.args.tail c.args.head c.requires.listed in
    l.list

pub place_in-requires-clause-held : goal.place_in-requires-clause-held
place_in-requires-clause-held c =
    let l = listed c.args.lists.now c.requires.rules c.args.tail c.args.head c.requires.listed in
    l.back

pub place_in-requires-clause-short : goal.place_in-requires-clause-short
place_in-requires-clause-short c =
    let l = listed c.args.lists.now c.requires.rules c.args.tail c.args.head c.requires.listed in
    l.short

pub overflow_add-result : goal.overflow_add-result
overflow_add-result c =
    let l = listed c.args.lists.now c.requires.rules c.args.tail c.args.head c.requires.listed in
    omega (arith, c.first_dart.ensures.value, stands_below c.args.lists.now (c.args.head - 1) c.place_in.result l.list c.place_in.ensures.within, c.first_dart.ensures.few)

pub returns : goal.returns
returns c =
    let g = c.args.lists.now in
    let l = listed g c.requires.rules c.args.tail c.args.head c.requires.listed in
    let i = c.place_in.result in
    let number : c.first_dart.result + i ≡ first_dart g (c.args.head - 1) + i = omega (arith, c.first_dart.ensures.value) in
    reverse_found g c.requires.rules c.args.tail c.args.head (c.args.head - 1) i (c.first_dart.result + i) l.vertex l.list c.place_in.ensures.within c.place_in.ensures.here number
