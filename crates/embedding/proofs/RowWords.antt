-- The word of a list, entry by entry, and the columns that its entries have the vertex in.
use Rattle.std.proofs.Common.{◌≡◌, ◌≢◌, ℕ, ◌+◌, ◌*◌, ◌%◌, ◌^◌, ◌<◌, ◌≤◌, List, [], length, get_or, set, take, sym, ap, ◌∙◌, subst, inl, inr, arith, w64, bit_or}
use Rattle.std.specs.List.{All, Contains}
use Rattle.std.proofs.lemmas.List.{get_or_default, get_or-set_same, get_or-set_other, get_or-take, length-set}
use Rattle.std.proofs.lemmas.Bool.{cases_eq}
use Rattle.std.proofs.lemmas.Nat.Bits.{bit_at-lt, bit_at_or, bit_at_set_same}
use Rattle.embedding.specs.Rows.{HasBit, IsRow, IsRows}
use Rattle.embedding.specs.Lists.{list_of}
use Rattle.embedding.proofs.EachList.{list_of-add}
use Rattle.embedding.proofs.RowBits.{bit_of_one, bit_of_or}

-- the word has bits for the first i entries of the list of vertex u alone; these differ, and are other vertices up to n
pub record IsRead (n u : ℕ) (list : List ℕ) (i row : ℕ) : Type 0 where
  pub seen : (k : ℕ) → k < i → HasBit row (get_or list k 0)
  pub named : (v : ℕ) → HasBit row v → (k : ℕ) × (k < i) × (get_or list k 0 ≡ v)
  pub range : (k : ℕ) → k < i → get_or list k 0 ≤ n
  pub other : (k : ℕ) → k < i → get_or list k 0 ≢ u
  pub apart : (j k : ℕ) → j < k → k < i → get_or list j 0 ≢ get_or list k 0

-- the columns of the first i entries have the bit of vertex u, and no bit is lost
pub record AreFlagged (u : ℕ) (list : List ℕ) (i : ℕ) (old columns : List ℕ) : Type 0 where
  pub size : length columns ≡ length old
  pub flagged : (k : ℕ) → k < i → HasBit (get_or columns (get_or list k 0) 0) u
  pub kept : (w v : ℕ) → HasBit (get_or old w 0) v → HasBit (get_or columns w 0) v

or_left : (a b v : ℕ) → HasBit a v → HasBit (bit_or a b) v
or_left a b v has = omega (arith, has, bit_at_or a b v, bit_at-lt a v, bit_at-lt b v)

below : (k i : ℕ) → k < i + 1 → k ≢ i → k < i
below k i less other = omega (arith, less, other)

pub read_more : (n u : ℕ) (list : List ℕ) (i row entry : ℕ) → entry < 64 → entry ≡ get_or list i 0 → entry ≤ n → entry ≢ u → (HasBit row entry → ⊥) → IsRead n u list i row → IsRead n u list (i + 1) (bit_or row (1 * 2 ^ entry % 2 ^ 64))
read_more n u list i row entry small at range other new m =
    record {
      seen = λ k b. elim (cases_eq k i) [
        | inl same ↦
            let is : get_or list k 0 ≡ entry = ap (λ (j : ℕ). get_or list j 0) same ∙ sym at in
            rw is (bit_at_set_same w64 row entry small)
        | inr before ↦ or_left _ _ _ (m.seen k (below k i b before))
      ];
      named = λ v has. elim (bit_of_or _ _ v has) [
        | inl old ↦ let (k, before, is) = m.named v old in (k, omega (arith, before), is)
        | inr one ↦ (i, omega arith, sym at ∙ sym (bit_of_one entry v small one))
      ];
      range = λ k b. elim (cases_eq k i) [
        | inl same ↦ omega (arith, ap (λ (j : ℕ). get_or list j 0) same, at, range)
        | inr before ↦ m.range k (below k i b before)
      ];
      other = λ k b. elim (cases_eq k i) [
        | inl same ↦ λ e. other (at ∙ sym (ap (λ (j : ℕ). get_or list j 0) same) ∙ e)
        | inr before ↦ m.other k (below k i b before)
      ];
      apart = λ j k a b. elim (cases_eq k i) [
        | inl same ↦
            λ e. new (subst (HasBit row) (e ∙ ap (λ (m : ℕ). get_or list m 0) same ∙ sym at) (m.seen j (omega (arith, a, same))))
        | inr before ↦ m.apart j k a (below k i b before)
      ];
    }

pub flagged_more : (u : ℕ) (list : List ℕ) (i entry : ℕ) (old columns : List ℕ) → u < 64 → entry < length columns → entry ≡ get_or list i 0 → AreFlagged u list i old columns → AreFlagged u list (i + 1) old (set columns entry (bit_or (get_or columns entry 0) (1 * 2 ^ u % 2 ^ 64)))
flagged_more u list i entry old columns small inside at m =
    record {
      size = length-set columns entry _ ∙ m.size;
      flagged = λ k b. elim (cases_eq k i) [
        | inl same ↦
            let is : get_or list k 0 ≡ entry = ap (λ (j : ℕ). get_or list j 0) same ∙ sym at in
            rw (is, get_or-set_same columns entry (bit_or (get_or columns entry 0) (1 * 2 ^ u % 2 ^ 64)) 0 inside) (bit_at_set_same w64 (get_or columns entry 0) u small)
        | inr before ↦ keeps (get_or list k 0) u (m.flagged k (below k i b before))
      ];
      kept = λ w v has. keeps w v (m.kept w v has);
    }
  where
    keeps : (w v : ℕ) → HasBit (get_or columns w 0) v → HasBit (get_or (set columns entry (bit_or (get_or columns entry 0) (1 * 2 ^ u % 2 ^ 64))) w 0) v
    keeps w v has = elim (cases_eq w entry) [
      | inl same ↦
          rw (same, get_or-set_same columns entry (bit_or (get_or columns entry 0) (1 * 2 ^ u % 2 ^ 64)) 0 inside)
          (or_left _ _ v (subst (λ (x : ℕ). HasBit (get_or columns x 0) v) same has))
      | inr other ↦ rw (get_or-set_other columns entry w (bit_or (get_or columns entry 0) (1 * 2 ^ u % 2 ^ 64)) 0 other) has
    ]

-- a list that is read to its end is a row
pub read_row : (n u : ℕ) (list : List ℕ) (i row : ℕ) → 0 < length list → length list ≤ 4 → length list ≤ i → IsRead n u list i row → IsRow n u list
read_row n u list i row some short past m =
    record {
      some = some;
      short = short;
      range = λ k d inside. subst (λ (x : ℕ). x ≤ n) (get_or_default list k 0 d inside) (m.range k (omega (arith, inside, past)));
      loop = λ (k, inside, is). m.other k (omega (arith, inside, past)) (get_or_default list k 0 u inside ∙ is);
      multi = λ (j, k, before, inside, same). m.apart j k before (omega (arith, inside, past)) same;
    }

-- where rows and columns are the same up to an end, the rows have what the columns have
pub answered : (rows columns list : List ℕ) (n end u : ℕ) → n < end → take end rows ≡ take end columns → All (λ v. v ≤ n) list → All (λ v. HasBit (get_or columns v 0) u) list → All (λ v. HasBit (get_or rows v 0) u) list
answered rows columns list n end u past same range flagged k d inside =
    let v = get_or list k d in
    let low : v < end = omega (arith, range k d inside, past) in
    let is : get_or rows v 0 ≡ get_or columns v 0 =
    sym (get_or-take end rows v 0 low) ∙ ap (λ (l : List ℕ). get_or l v 0) same ∙ get_or-take end columns v 0 low in
    rw is (flagged k d inside)

-- ---- list by list

pub rows_more : (g : List (List ℕ)) (rows : List ℕ) (at place row : ℕ) (list : List ℕ) → at ≡ place + 1 → at < length rows → list ≡ get_or g place [] → ((v : ℕ) → HasBit row v → Contains list v) → IsRows g rows → IsRows g (set rows at row)
rows_more g rows at place row list next inside is bits old u v has =
    elim (cases_eq u at) [
      | inl same ↦
          let here : list_of g u ≡ list = ap (list_of g) (same ∙ next) ∙ list_of-add g place ∙ sym is in
          let bit : HasBit row v =
          subst (λ (x : ℕ). HasBit x v) (get_or-set_same rows at row 0 inside) (subst (λ (x : ℕ). HasBit (get_or (set rows at row) x 0) v) same has) in
          subst (λ (l : List ℕ). Contains l v) (sym here) (bits v bit)
      | inr other ↦ old u v (subst (λ (x : ℕ). HasBit x v) (get_or-set_other rows at u row 0 other) has)
    ]

pub each_more : (g : List (List ℕ)) (n place : ℕ) (list : List ℕ) → n ≡ length g → list ≡ get_or g place [] → IsRow n (place + 1) list → ((k : ℕ) → k < place → IsRow (length g) (k + 1) (get_or g k [])) → (k : ℕ) → k < place + 1 → IsRow (length g) (k + 1) (get_or g k [])
each_more g n place list size is row old k b =
    elim (cases_eq k place) [
      | inl same ↦
          subst (λ (j : ℕ). IsRow (length g) (j + 1) (get_or g j [])) (sym same) (subst (λ (l : List ℕ). IsRow (length g) (place + 1) l) is (subst (λ (m : ℕ). IsRow m (place + 1) list) size row))
      | inr before ↦ old k (below k place b before)
    ]

pub columns_more : (g : List (List ℕ)) (place : ℕ) (list old new : List ℕ) → list ≡ get_or g place [] → All (λ v. HasBit (get_or new v 0) (place + 1)) list → ((w v : ℕ) → HasBit (get_or old w 0) v → HasBit (get_or new w 0) v)
    → ((k : ℕ) → k < place → All (λ v. HasBit (get_or old v 0) (k + 1)) (get_or g k [])) → (k : ℕ) → k < place + 1 → All (λ v. HasBit (get_or new v 0) (k + 1)) (get_or g k [])
columns_more g place list old new is flagged kept before k b =
    elim (cases_eq k place) [
      | inl same ↦
          subst (λ (j : ℕ). All (λ v. HasBit (get_or new v 0) (j + 1)) (get_or g j [])) (sym same) (subst (λ (l : List ℕ). All (λ v. HasBit (get_or new v 0) (place + 1)) l) is flagged)
      | inr other ↦ λ j d inside. kept (get_or (get_or g k []) j d) (k + 1) (before k (below k place b other) j d inside)
    ]
