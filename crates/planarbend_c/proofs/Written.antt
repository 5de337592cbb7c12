-- A list that is written item by item.
use Rattle.std.proofs.Common.{◌≡◌, ◌∙◌, ◌+◌, ◌*◌, ◌-◌, ◌<◌, ◌≤◌, ◌++◌, ◌∷◌, [], ℕ, List, false, ap, arith, drop, get_or, length, refl, set, subst, sym, take}
use Rattle.std.specs.Bool.{◌==◌}
use Rattle.std.proofs.lemmas.Bool.{eqb-false}
use Rattle.std.proofs.lemmas.List.{drop-drop, take_all, take_more, take_more_set}
use Rattle.planarbend_c.specs.declared.lists.Counts.{Counts}
use Rattle.planarbend_c.specs.Held.{IsSameAfter, ListsModel}
use Rattle.planarbend_c.specs.Left.{AreSameAfter}

-- a list that is not empty has room for something
pub some_room : (n : ℕ) → false ≡ (n == 0) → 0 < n
some_room n full = omega (arith, eqb-false n 0 (sym full))

-- one item more stands where it belongs
pub one_written : {A : Type 0} (out items : List A) (at place : ℕ) (x d : A) → at ≡ place → place < length out → place < length items
    → take place out ≡ take place items → x ≡ get_or items place d → take (place + 1) (set out at x) ≡ take (place + 1) items
one_written {A} out items at place x d here room inside before is =
    ap (λ n. take (place + 1) (set out n x)) here
    ∙ take_more_set out place x room
    ∙ ap (λ (l : List A). l ++ x ∷ []) before
    ∙ ap (λ (y : A). take place items ++ y ∷ []) is
    ∙ sym (take_more items place d inside)

-- all of them do
pub all_written : {A : Type 0} (out items : List A) (place : ℕ) → place ≡ length items
    → take place out ≡ take place items → take (length items) out ≡ items
all_written {A} out items place end before =
    ap (λ n. take n out) (sym end) ∙ before ∙ take_all place items (omega (arith, end))

-- lists that are the same after n items are the same after more
pub same_beyond : {A : Type 0} (more n : ℕ) (before after : List A) → n ≤ more → drop n after ≡ drop n before → drop more after ≡ drop more before
same_beyond {A} more n before after few same =
    let sum : n + (more - n) ≡ more = omega (arith, few) in
    ap (λ k. drop k after) (sym sum)
    ∙ sym (drop-drop (more - n) n after)
    ∙ ap (drop (more - n)) same
    ∙ drop-drop (more - n) n before
    ∙ ap (λ k. drop k before) sum

-- n and m are the same number
pub same_for : {A : Type 0} (n m : ℕ) (before after : List A) → n ≡ m → IsSameAfter n before after → IsSameAfter m before after
same_for {A} n m before after is same = subst (λ k. IsSameAfter k before after) is same

-- a list that is the same is so after any number of items
pub all_same : {A : Type 0} (n : ℕ) (list : List A) → IsSameAfter n list list
all_same {A} n list = record { long = refl; rest = refl }

-- so are all lists
pub lists_same : (counts : Counts) (lists : ListsModel) → AreSameAfter counts lists lists
lists_same counts lists = record {
  angles = all_same (2 * counts.edges) lists.angles;
  turns = all_same (2 * counts.edges) lists.turns;
  vertices = all_same counts.vertices lists.vertex_prices;
  faces = all_same counts.faces lists.face_prices;
  points = all_same counts.vertices lists.points;
  starts = all_same (counts.edges + 1) lists.corner_starts;
  corners = all_same counts.corners lists.corners;
}
