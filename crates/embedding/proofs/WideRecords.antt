-- What the entries of a wide record mean, read one after another.
use Rattle.std.proofs.Common.{◌≡◌, ◌↔◌, ℕ, zero, suc, ◌+◌, ◌-◌, ◌*◌, ◌<◌, ◌≤◌, List, [], ◌∷◌, ◌++◌, length, drop, get_or, All, refl, sym, ap, subst, ◌∙◌, arith}
use Rattle.std.specs.List.{flat_map}
use Rattle.std.proofs.lemmas.List.Elements.{All-head, All-tail, All-cons, All-nil, All-weaker}
use Rattle.std.proofs.Math.Seq.{drop-cons}
use Rattle.common.specs.declared.parameters.TheConstants.{MAX_VERTICES}
use Rattle.embedding.specs.declared.wide_record.TheConstants.{MAX_ENTRIES}
use Rattle.embedding.specs.declared.wide_record.WideFault.{WideFault}
use Rattle.embedding.specs.declared.wide_record.WideFault.TheVariants as fault
use Rattle.planar_code.specs.Stream.{IsEntry, IsList, IsRecord, ended, lists_of}
use Rattle.embedding.specs.Wide.{IsWideEntry, IsWideList, IsWideRecord, IsWideFault, BeginsAboveLimit, AreLists}
use Rattle.planar_code.proofs.Lists.{lists_in-all_nonzero, ended_short}

-- lists that take no entries are none
none_ended : (lists : List (List ℕ)) → [] ≡ flat_map ended lists → length lists ≡ 0
none_ended [] e = refl
none_ended ([] ∷ lists) e = absurd (cc)
none_ended ((x ∷ l) ∷ lists) e = absurd (cc)

-- no lists take no entries
over_ended : (lists : List (List ℕ)) (x : ℕ) (entries : List ℕ) → length lists ≡ 0 → x ∷ entries ≡ flat_map ended lists → ⊥
over_ended [] x entries n e = absurd (cc)
over_ended (l ∷ lists) x entries n e = absurd (omega arith)

-- lists that begin with a 0: the first is empty
record BeginsEmpty (lists : List (List ℕ)) (entries : List ℕ) : Type 0 where
  others : List (List ℕ)
  parts : lists ≡ [] ∷ others
  rest : entries ≡ flat_map ended others

zero_ended : (lists : List (List ℕ)) (entries : List ℕ) → 0 ∷ entries ≡ flat_map ended lists → All IsWideList lists → BeginsEmpty lists entries
zero_ended [] entries e each = absurd (cc)
zero_ended ([] ∷ lists) entries e each = record { others = lists; parts = refl; rest = cc }
zero_ended ((x ∷ l) ∷ lists) entries e each =
    let head : 0 ≡ x = cc in
    absurd (omega (arith, (All-head IsWideEntry x l (All-head IsWideList (x ∷ l) lists each)).0))

-- lists that begin with another entry: it is the first of the first
record BeginsWith (x : ℕ) (lists : List (List ℕ)) (entries : List ℕ) : Type 0 where
  first : List ℕ
  others : List (List ℕ)
  parts : lists ≡ (x ∷ first) ∷ others
  rest : entries ≡ flat_map ended (first ∷ others)

entry_ended : (lists : List (List ℕ)) (x : ℕ) (entries : List ℕ) → 0 < x → x ∷ entries ≡ flat_map ended lists → BeginsWith x lists entries
entry_ended [] x entries some e = absurd (cc)
entry_ended ([] ∷ lists) x entries some e = let head : x ≡ 0 = cc in absurd (omega arith)
entry_ended ((y ∷ l) ∷ lists) x entries some e =
    let head : y ≡ x = cc in
    record { first = l; others = lists; parts = ap (λ z. (z ∷ l) ∷ lists) head; rest = cc }

entry_more : (lists : List (List ℕ)) (x : ℕ) (entries : List ℕ) (count : ℕ) → IsWideEntry x → 0 < count → entries ≡ flat_map ended lists → All IsWideList lists → length lists ≡ count → AreLists (x ∷ entries) count
entry_more [] x entries count entry some e each n = absurd (omega arith)
entry_more (l ∷ lists) x entries count entry some e each n = record {
  lists = (x ∷ l) ∷ lists;
  spelt = ap (λ z. x ∷ z) e;
  each = All-cons IsWideList (x ∷ l) lists (All-cons IsWideEntry x l entry (All-head IsWideList l lists each)) (All-tail IsWideList l lists each);
  counted = n;
}

-- no entries are no lists
pub lists-none : (count : ℕ) → AreLists [] count ↔ (count ≡ 0)
lists-none count = (
  (λ (h : AreLists [] count). sym h.counted ∙ none_ended h.lists h.spelt),
  (λ (e : count ≡ 0). record { lists = []; spelt = refl; each = All-nil IsWideList; counted = sym e }),
)

-- a 0 ends one list
lists-end : (entries : List ℕ) (count : ℕ) → 0 < count → AreLists (0 ∷ entries) count ↔ AreLists entries (count - 1)
lists-end entries count some = (
  (λ (h : AreLists (0 ∷ entries) count).
      let f = zero_ended h.lists entries h.spelt h.each in
      let n = h.counted in
      record {
        lists = f.others;
        spelt = f.rest;
        each = All-tail IsWideList [] f.others (subst (All IsWideList) f.parts h.each);
        counted = omega (arith, ap (λ (ls : List (List ℕ)). length ls) f.parts);
      }),
  (λ (h : AreLists entries (count - 1)).
      let n = h.counted in
      record {
        lists = [] ∷ h.lists;
        spelt = ap (λ z. 0 ∷ z) h.spelt;
        each = All-cons IsWideList [] h.lists (All-nil IsWideEntry) h.each;
        counted = omega arith;
      }),
)

-- another entry belongs to the first list
lists-entry : (x : ℕ) (entries : List ℕ) (count : ℕ) → IsWideEntry x → 0 < count → AreLists (x ∷ entries) count ↔ AreLists entries count
lists-entry x entries count entry some = (
  (λ (h : AreLists (x ∷ entries) count).
      let f = entry_ended h.lists x entries entry.0 h.spelt in
      let n = h.counted in
      let all = subst (All IsWideList) f.parts h.each in
      record {
        lists = f.first ∷ f.others;
        spelt = f.rest;
        each = All-cons IsWideList f.first f.others (All-tail IsWideEntry x f.first (All-head IsWideList (x ∷ f.first) f.others all)) (All-tail IsWideList (x ∷ f.first) f.others all);
        counted = omega (arith, ap (λ (ls : List (List ℕ)). length ls) f.parts);
      }),
  (λ (h : AreLists entries count). entry_more h.lists x entries count entry some h.spelt h.each h.counted),
)

module _ (entries : List ℕ) (i count : ℕ) (inside : i < length entries) where
  -- the entry at a place, and those after it
  next : drop i entries ≡ get_or entries i 0 ∷ drop (i + 1) entries
  next =
      let e : suc i ≡ i + 1 = omega arith in
      subst (λ k. drop i entries ≡ get_or entries i 0 ∷ drop k entries) e (drop-cons entries i 0 inside)

  pub step-over : AreLists (drop i entries) 0 → ⊥
  step-over h = over_ended h.lists (get_or entries i 0) (drop (i + 1) entries) h.counted (sym next ∙ h.spelt)

  pub step-end : get_or entries i 0 ≡ 0 → 0 < count → AreLists (drop i entries) count ↔ AreLists (drop (i + 1) entries) (count - 1)
  step-end z some =
      subst (λ l. AreLists l count ↔ AreLists (drop (i + 1) entries) (count - 1)) (sym (next ∙ ap (λ x. x ∷ drop (i + 1) entries) z))
      (lists-end (drop (i + 1) entries) count some)

  pub step-entry : IsWideEntry (get_or entries i 0) → 0 < count → AreLists (drop i entries) count ↔ AreLists (drop (i + 1) entries) count
  step-entry entry some =
      subst (λ l. AreLists l count ↔ AreLists (drop (i + 1) entries) count) (sym next)
      (lists-entry (get_or entries i 0) (drop (i + 1) entries) count entry some)

-- what holds of the entries of each wide record
pub wide-bounds : (entries : List ℕ) (r : IsWideRecord entries) → (0 < length entries) × (0 < get_or entries 0 0) × (get_or entries 0 0 ≤ MAX_VERTICES)
wide-bounds entries r =
    let first : get_or entries 0 0 ≡ length r.lists = ap (λ (z : List ℕ). get_or z 0 0) r.spelt in
    let long : length entries ≡ suc (length (flat_map ended r.lists)) = ap (λ (z : List ℕ). length z) r.spelt in
    let some = r.some in
    let few = r.few in
    (omega arith, omega arith, omega arith)

-- the entries after the first are as many lists as it says
pub wide-lists : (entries : List ℕ) → 0 < length entries → length entries ≤ MAX_ENTRIES → 0 < get_or entries 0 0 → get_or entries 0 0 ≤ MAX_VERTICES → AreLists (drop 1 entries) (get_or entries 0 0) ↔ IsWideRecord entries
wide-lists [] some short first few = absurd (omega arith)
wide-lists (order ∷ entries) some short first few = (
  (λ (h : AreLists entries order).
      let n = h.counted in
      record {
        lists = h.lists;
        spelt = ap (λ k. k ∷ entries) (sym h.counted) ∙ ap (λ z. length h.lists ∷ z) h.spelt;
        each = h.each;
        some = omega arith;
        few = omega arith;
        short = short;
      }),
  (λ (r : IsWideRecord (order ∷ entries)).
      let e = r.spelt in
      let head : length r.lists ≡ order = cc in
      let rest : entries ≡ flat_map ended r.lists = cc in
      record { lists = r.lists; spelt = rest; each = r.each; counted = head }),
)

-- the lists that its entries hold are the record's lists
pub lists_of-wide : (entries : List ℕ) (r : IsWideRecord entries) → lists_of entries ≡ r.lists
lists_of-wide entries r =
    ap lists_of r.spelt
    ∙ lists_in-all_nonzero r.lists (All-weaker IsWideList (All (λ x. 0 < x)) (λ l h. All-weaker IsWideEntry (λ x. 0 < x) (λ x e. e.0) l h) r.lists r.each)

pub spelt-wide : (entries : List ℕ) → IsWideRecord entries → entries ≡ length (lists_of entries) ∷ flat_map ended (lists_of entries)
spelt-wide entries r =
    subst (λ lists. entries ≡ length lists ∷ flat_map ended lists) (sym (lists_of-wide entries r)) r.spelt

pub each-wide : (entries : List ℕ) → IsWideRecord entries → All IsWideList (lists_of entries)
each-wide entries r = subst (All IsWideList) (sym (lists_of-wide entries r)) r.each

pub count-wide : (entries : List ℕ) → IsWideRecord entries → get_or entries 0 0 ≡ length (lists_of entries)
count-wide entries r = ap (λ (z : List ℕ). get_or z 0 0) (spelt-wide entries r)

-- the bytes of a record are entries of a wide record
pub record-wide : (bytes : List ℕ) → IsRecord bytes → IsWideRecord bytes
record-wide bytes r = record {
  lists = r.lists;
  spelt = r.spelt;
  each = All-weaker IsList IsWideList (λ l h. All-weaker IsEntry IsWideEntry (λ x e. (e.0, omega (arith, e.1))) l h.each) r.lists r.each;
  some = r.some;
  few = omega (arith, r.few);
  short = omega (arith, ap (λ (z : List ℕ). length z) r.spelt, ended_short r.lists r.each, r.few);
}

-- entries of which the first is above the limit
pub above-limit : (entries : List ℕ) → 0 < length entries → MAX_VERTICES < get_or entries 0 0 → BeginsAboveLimit entries
above-limit [] some above = absurd (omega arith)
above-limit (order ∷ entries) some above = above

pub limit-above : (entries : List ℕ) → BeginsAboveLimit entries → (0 < length entries) × (MAX_VERTICES < get_or entries 0 0)
limit-above [] h = absurd h
limit-above (order ∷ entries) h = (omega arith, h)

-- at most one fault fits
pub wide_fault-same : (entries : List ℕ) (f g : WideFault) → IsWideFault entries f → IsWideFault entries g → f ≡ g
wide_fault-same entries fault.Large fault.Large h k = refl
wide_fault-same entries fault.Large fault.Record h k = absurd (k.0 h)
wide_fault-same entries fault.Record fault.Large h k = absurd (h.0 k)
wide_fault-same entries fault.Record fault.Record h k = refl

-- a wide record has no fault
pub wide_fault-none : (entries : List ℕ) (f : WideFault) → IsWideFault entries f → IsWideRecord entries → ⊥
wide_fault-none entries fault.Large h r =
    let above = limit-above entries h in
    let bounds = wide-bounds entries r in
    omega arith
wide_fault-none entries fault.Record h r = h.1 r
