-- How a record comes on, one byte at a time.
use Rattle.std.proofs.Common.{◌≡◌, ◌≢◌, ℕ, zero, suc, ◌+◌, ◌-◌, ◌*◌, ◌<◌, ◌≤◌, List, [], ◌∷◌, ◌++◌, length, All, replicate, refl, sym, ap, subst, ◌∙◌, arith, append_assoc, append-nil, length-append}
use Rattle.std.proofs.lemmas.List.{length-replicate}
use Rattle.std.specs.List.{flat_map}
use Rattle.std.proofs.lemmas.List.Elements.{All-head, All-tail, All-push, All-append, All-nil, All-replicate}
use Rattle.std.proofs.lemmas.List.Concat.{flat_map-append}
use Rattle.planar_code.specs.Stream.{IsEntry, IsList, IsRecord, IsUnfinished, ended}
use Rattle.planar_code.specs.Split.{BeginsWithZero}
use Rattle.planar_code.specs.Started.{IsStarted, IsOversize}
use Rattle.planar_code.proofs.Records.{ended_same}

-- one more list at the end
pub flat_map-ended-push : (lists : List (List ℕ)) (last : List ℕ) → flat_map ended (lists ++ last ∷ []) ≡ flat_map ended lists ++ ended last
flat_map-ended-push lists last =
    flat_map-append ended lists (last ∷ []) ∙ ap (λ z. flat_map ended lists ++ z) (append-nil (ended last))

-- the first byte says how many lists there are
pub started-first : (order : ℕ) → 0 < order → order < 256 → IsStarted (order ∷ []) order 0
started-first order some few = record {
  lists = [];
  current = [];
  spelt = ap (λ n. n ∷ []) (omega arith);
  each = All-nil IsList;
  current_each = All-nil IsEntry;
  counted = refl;
  short = omega arith;
  some = some;
  few = omega arith;
}

-- an entry
pub started-entry : (bytes : List ℕ) (remaining entries x : ℕ) → IsStarted bytes remaining entries → IsEntry x → entries < 254 → IsStarted (bytes ++ x ∷ []) remaining (entries + 1)
started-entry bytes remaining entries x s entry room = record {
  lists = s.lists;
  current = s.current ++ x ∷ [];
  spelt = ap (λ z. z ++ x ∷ []) s.spelt ∙ ap (λ z. (length s.lists + remaining) ∷ z) (append_assoc (flat_map ended s.lists) s.current (x ∷ []));
  each = s.each;
  current_each = All-push IsEntry s.current x s.current_each entry;
  counted = let n = s.counted in omega (arith, length-append s.current (x ∷ []));
  short = omega arith;
  some = s.some;
  few = s.few;
}

-- the open list as a whole one
current-list : (bytes : List ℕ) (remaining entries : ℕ) (s : IsStarted bytes remaining entries) → IsList s.current
current-list bytes remaining entries s = record { each = s.current_each; short = let n = s.counted in let m = s.short in omega arith }

-- the bytes with a 0 after them end the open list
spelt-ended : (bytes : List ℕ) (remaining entries : ℕ) (s : IsStarted bytes remaining entries) → bytes ++ 0 ∷ [] ≡ (length s.lists + remaining) ∷ flat_map ended (s.lists ++ s.current ∷ [])
spelt-ended bytes remaining entries s =
    ap (λ z. z ++ 0 ∷ []) s.spelt
    ∙ ap (λ z. (length s.lists + remaining) ∷ z) (append_assoc (flat_map ended s.lists) s.current (0 ∷ []) ∙ sym (flat_map-ended-push s.lists s.current))

-- a 0 that is not the last
pub started-end : (bytes : List ℕ) (remaining entries : ℕ) → IsStarted bytes remaining entries → 1 < remaining → IsStarted (bytes ++ 0 ∷ []) (remaining - 1) 0
started-end bytes remaining entries s more = let few = s.few in let n = length-append s.lists (s.current ∷ []) in record {
  lists = s.lists ++ s.current ∷ [];
  current = [];
  spelt = spelt-ended bytes remaining entries s
      ∙ ap (λ n. n ∷ flat_map ended (s.lists ++ s.current ∷ [])) (omega arith)
      ∙ ap (λ z. (length (s.lists ++ s.current ∷ []) + (remaining - 1)) ∷ z) (sym (append-nil (flat_map ended (s.lists ++ s.current ∷ []))));
  each = All-push IsList s.lists s.current s.each (current-list bytes remaining entries s);
  current_each = All-nil IsEntry;
  counted = refl;
  short = omega arith;
  some = omega arith;
  few = omega arith;
}

-- empty lists are written as as many 0
zeros : (k : ℕ) → flat_map ended (replicate k []) ≡ replicate k 0
zeros zero = refl
zeros (suc k) = ap (λ z. 0 ∷ z) (zeros k)

-- with a 0, and one for each list after the open one, the record is whole
pub whole-zeros : (bytes : List ℕ) (remaining entries : ℕ) → IsStarted bytes remaining entries → IsRecord (bytes ++ (0 ∷ replicate (remaining - 1) 0))
whole-zeros bytes remaining entries s =
    let done = s.lists ++ s.current ∷ [] in
    let later : List (List ℕ) = replicate (remaining - 1) [] in
    let some = s.some in
    let few = s.few in
    let n = length-append s.lists (s.current ∷ []) in
    let m = length-append done later in
    let k = length-replicate {A = List ℕ} (remaining - 1) [] in
    record {
      lists = done ++ later;
      spelt = sym (append_assoc bytes (0 ∷ []) (replicate (remaining - 1) 0))
          ∙ ap (λ z. z ++ replicate (remaining - 1) 0) (spelt-ended bytes remaining entries s)
          ∙ ap (λ z. (length s.lists + remaining) ∷ (flat_map ended done ++ z)) (sym (zeros (remaining - 1)))
          ∙ ap (λ z. (length s.lists + remaining) ∷ z) (sym (flat_map-append ended done later))
          ∙ ap (λ n. n ∷ flat_map ended (done ++ later)) (omega arith);
      each = All-append IsList done later (All-push IsList s.lists s.current s.each (current-list bytes remaining entries s)) (All-replicate IsList (remaining - 1) [] (record { each = All-nil IsEntry; short = omega arith }));
      some = omega arith;
      few = omega arith;
    }

-- the last 0
pub started-whole : (bytes : List ℕ) (remaining entries : ℕ) → IsStarted bytes remaining entries → remaining ≡ 1 → IsRecord (bytes ++ 0 ∷ [])
started-whole bytes remaining entries s last =
    subst (λ k. IsRecord (bytes ++ (0 ∷ replicate (k - 1) 0))) last (whole-zeros bytes remaining entries s)

-- a record that was begun is not yet whole
pub started-unfinished : (bytes : List ℕ) (remaining entries : ℕ) → IsStarted bytes remaining entries → IsUnfinished bytes
started-unfinished bytes remaining entries s = record {
  missing = 0 ∷ replicate (remaining - 1) 0;
  more = λ e. (cc);
  whole = whole-zeros bytes remaining entries s;
}

-- a longer run of entries is not an ended list
run_too_long : (run list x y : List ℕ) → All IsEntry run → length list < length run → run ++ x ≡ ended list ++ y → ⊥
run_too_long [] list x y each longer e = omega arith
run_too_long (c ∷ run) [] x y each longer e =
    let head : c ≡ 0 = cc in omega (arith, (All-head IsEntry c run each).0)
run_too_long (c ∷ run) (d ∷ list) x y each longer e =
    run_too_long run list x y (All-tail IsEntry c run each) (omega arith) (cc)

-- more lists than were ended so far cannot stand where the next is too long
lists_too_long : (done lists : List (List ℕ)) (run x y : List ℕ) → All IsList done → All IsList lists → All IsEntry run → 254 < length run → length done < length lists → flat_map ended done ++ (run ++ x) ≡ flat_map ended lists ++ y → ⊥
lists_too_long done [] run x y each_d each_l each long fewer e = omega arith
lists_too_long [] (l ∷ lists) run x y each_d each_l each long fewer e =
    let short = (All-head IsList l lists each_l).short in
    run_too_long run l x (flat_map ended lists ++ y) each (omega arith) (e ∙ append_assoc (ended l) (flat_map ended lists) y)
lists_too_long (d ∷ done) (l ∷ lists) run x y each_d each_l each long fewer e =
    let parts = sym (append_assoc (ended d) (flat_map ended done) (run ++ x)) ∙ e ∙ append_assoc (ended l) (flat_map ended lists) y in
    let same = ended_same d l _ _ (All-head IsList d done each_d).each (All-head IsList l lists each_l).each parts in
    lists_too_long done lists run x y (All-tail IsList d done each_d) (All-tail IsList l lists each_l) each long (omega arith) same.1

-- bytes that were begun are not empty, and their first is no 0
started-some : (bytes : List ℕ) (remaining entries : ℕ) (more : List ℕ) → IsStarted bytes remaining entries → bytes ++ more ≢ []
started-some bytes remaining entries more s e =
    let start = ap (λ z. z ++ more) s.spelt in cc

started-nonzero : (bytes : List ℕ) (remaining entries : ℕ) (more : List ℕ) → IsStarted bytes remaining entries → BeginsWithZero (bytes ++ more) → ⊥
started-nonzero bytes remaining entries more s z =
    let start = ap (λ z. z ++ more) s.spelt in
    let head = z.1 in
    let none : length s.lists + remaining ≡ 0 = cc in
    let some = s.some in
    omega arith

-- a 255th entry: no record comes of it
pub started-oversize : (bytes : List ℕ) (remaining entries x : ℕ) (more : List ℕ) → IsStarted bytes remaining entries → IsEntry x → entries ≡ 254 → IsOversize (bytes ++ (x ∷ more))
started-oversize bytes remaining entries x more s entry full = record {
  some = started-some bytes remaining entries (x ∷ more) s;
  nonzero = started-nonzero bytes remaining entries (x ∷ more) s;
  never = λ later first rest r e.
      let run = s.current ++ x ∷ [] in
      let counted = s.counted in
      let some = s.some in
      let longer = length-append s.current (x ∷ []) in
      let spelt : (length s.lists + remaining) ∷ ((flat_map ended s.lists ++ s.current) ++ ((x ∷ more) ++ later)) ≡ length r.lists ∷ (flat_map ended r.lists ++ rest)
      = sym (ap (λ z. z ++ ((x ∷ more) ++ later)) s.spelt) ∙ sym (append_assoc bytes (x ∷ more) later) ∙ e ∙ ap (λ z. z ++ rest) r.spelt in
      let count : length s.lists + remaining ≡ length r.lists = cc in
      let tails : (flat_map ended s.lists ++ s.current) ++ (x ∷ (more ++ later)) ≡ flat_map ended r.lists ++ rest = cc in
      let parts : flat_map ended s.lists ++ (run ++ (more ++ later)) ≡ flat_map ended r.lists ++ rest
      = ap (λ z. flat_map ended s.lists ++ z) (append_assoc s.current (x ∷ []) (more ++ later)) ∙ sym (append_assoc (flat_map ended s.lists) s.current (x ∷ (more ++ later))) ∙ tails in
      lists_too_long s.lists r.lists run (more ++ later) rest s.each r.each (All-push IsEntry s.current x s.current_each entry) (omega arith) (omega arith) parts;
}

-- how long lists are that are ended
length-lists : (lists : List (List ℕ)) → All IsList lists → length (flat_map ended lists) ≤ 255 * length lists
length-lists [] each = omega arith
length-lists (l ∷ lists) each =
    let short = (All-head IsList l lists each).short in
    omega (arith, length-append (ended l) (flat_map ended lists), length-append l (0 ∷ []), length-lists lists (All-tail IsList l lists each))

-- a record takes at most 65,026 bytes
pub length-record : (bytes : List ℕ) → IsRecord bytes → length bytes ≤ 65026
length-record bytes r =
    let few = r.few in omega (arith, ap length r.spelt, length-lists r.lists r.each)

pub length-started : (bytes : List ℕ) (remaining entries : ℕ) → IsStarted bytes remaining entries → length bytes ≤ 65026
length-started bytes remaining entries s =
    let few = s.few in
    let some = s.some in
    let counted = s.counted in
    let short = s.short in
    omega (arith, ap length s.spelt, length-append (flat_map ended s.lists) s.current, length-lists s.lists s.each)
