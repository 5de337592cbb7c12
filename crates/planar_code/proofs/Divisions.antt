-- The longest list of whole records is one list, and any other is a beginning of it.
use Rattle.std.proofs.Common.{◌≡◌, ℕ, ◌+◌, ◌≤◌, List, [], ◌∷◌, ◌++◌, ◌⊎◌, inl, inr, length, All, refl, sym, ap, ◌∙◌, arith, append_assoc, append-nil, length-append}
use Rattle.std.specs.List.{concat}
use Rattle.std.proofs.lemmas.List.Elements.{All-head, All-tail, All-push}
use Rattle.std.proofs.lemmas.Bool.{cases_eq}
use Rattle.planar_code.specs.declared.TheConstants.{MAX_RECORDS}
use Rattle.planar_code.specs.Stream.{IsRecord, NoRecordFirst}
use Rattle.planar_code.specs.Split.{IsDivided}
use Rattle.planar_code.proofs.Records.{record_same}

-- one more record at the end
pub concat-push : (records : List (List ℕ)) (last : List ℕ) → concat (records ++ last ∷ []) ≡ concat records ++ last
concat-push [] last = append-nil last
concat-push (r ∷ records) last = ap (λ z. r ++ z) (concat-push records last) ∙ sym (append_assoc r (concat records) last)

-- records that cannot be continued: there are as many as may be, or no other stands next
abbrev pub IsStuck : ℕ → List ℕ → Type 0
IsStuck count rest = (count ≡ MAX_RECORDS) ⊎ NoRecordFirst rest

-- other records that begin the same bytes begin those that cannot be continued, i records later
pub front_from : (i : ℕ) (others records : List (List ℕ)) (remaining rest : List ℕ) → All IsRecord others → All IsRecord records → concat others ++ remaining ≡ concat records ++ rest → i + length others ≤ MAX_RECORDS → IsStuck (i + length records) rest → (more : List (List ℕ)) × (records ≡ others ++ more)
front_from i [] records remaining rest each_o each_r e few stuck = (records, refl)
front_from i (o ∷ others) [] remaining rest each_o each_r e few (inl full) = absurd (omega arith)
front_from i (o ∷ others) [] remaining rest each_o each_r e few (inr stops) =
    absurd (stops o (concat others ++ remaining) (All-head IsRecord o others each_o) (sym e ∙ append_assoc o (concat others) remaining))
front_from i (o ∷ others) (r ∷ records) remaining rest each_o each_r e few stuck =
    let parts : o ++ (concat others ++ remaining) ≡ r ++ (concat records ++ rest)
    = sym (append_assoc o (concat others) remaining) ∙ e ∙ append_assoc r (concat records) rest in
    let same = record_same o r (concat others ++ remaining) (concat records ++ rest) (All-head IsRecord o others each_o) (All-head IsRecord r records each_r) parts in
    let later = front_from (i + 1) others records remaining rest (All-tail IsRecord o others each_o) (All-tail IsRecord r records each_r) same.1 (omega arith) (stuck_at stuck) in
    (later.0, cc)
  where
    stuck_at : IsStuck (i + length (r ∷ records)) rest → IsStuck ((i + 1) + length records) rest
    stuck_at (inl full) = inl (omega arith)
    stuck_at (inr stops) = inr stops

pub front_of-stuck : (others records : List (List ℕ)) (remaining rest : List ℕ) → All IsRecord others → All IsRecord records → concat others ++ remaining ≡ concat records ++ rest → length others ≤ MAX_RECORDS → IsStuck (length records) rest → (more : List (List ℕ)) × (records ≡ others ++ more)
front_of-stuck others records remaining rest each_o each_r e few (inl full) =
    front_from 0 others records remaining rest each_o each_r e (omega arith) (inl (omega arith))
front_of-stuck others records remaining rest each_o each_r e few (inr stops) =
    front_from 0 others records remaining rest each_o each_r e (omega arith) (inr stops)

-- a beginning is no longer than the whole
pub length-front : (a b : List (List ℕ)) → ((more : List (List ℕ)) × (b ≡ a ++ more)) → length a ≤ length b
length-front a b f = omega (arith, ap length f.1, length-append a f.0)

-- records that cannot be continued are the longest
pub divided_from : (body : List ℕ) (records : List (List ℕ)) (rest : List ℕ) → body ≡ concat records ++ rest → All IsRecord records → length records ≤ MAX_RECORDS → IsStuck (length records) rest → IsDivided body records rest
divided_from body records rest concatenated each few stuck = record {
  concatenated = concatenated;
  each = each;
  few = few;
  longest = λ others remaining e each_o few_o.
      length-front others records (front_of-stuck others records remaining rest each_o each (sym e ∙ concatenated) few_o stuck);
}

-- the longest records cannot be continued
pub stuck-divided : (body : List ℕ) (records : List (List ℕ)) (rest : List ℕ) → IsDivided body records rest → IsStuck (length records) rest
stuck-divided body records rest c = elim (cases_eq (length records) MAX_RECORDS) [
  | inl full ↦ inl full
  | inr short ↦ inr (λ first remaining r e.
      let others = records ++ first ∷ [] in
      let n = length-append records (first ∷ []) in
      let concatenated : body ≡ concat others ++ remaining
      = c.concatenated ∙ ap (λ z. concat records ++ z) e ∙ sym (append_assoc (concat records) first remaining) ∙ ap (λ z. z ++ remaining) (sym (concat-push records first)) in
      let few = c.few in
      absurd (omega (arith, c.longest others remaining concatenated (All-push IsRecord records first c.each r) (omega arith))))
]

-- any whole records that begin the body begin the longest
pub front_of-divided : (body : List ℕ) (records : List (List ℕ)) (rest : List ℕ) → IsDivided body records rest → (others : List (List ℕ)) (remaining : List ℕ) → body ≡ concat others ++ remaining → All IsRecord others → length others ≤ MAX_RECORDS → (more : List (List ℕ)) × (records ≡ others ++ more)
front_of-divided body records rest c others remaining e each few =
    front_of-stuck others records remaining rest each c.each (sym e ∙ c.concatenated) few (stuck-divided body records rest c)

-- the same number of records from the same bytes are the same
pub records_same : (ra rb : List (List ℕ)) (x y : List ℕ) → All IsRecord ra → All IsRecord rb → length ra ≡ length rb → concat ra ++ x ≡ concat rb ++ y → (ra ≡ rb) × (x ≡ y)
records_same [] [] x y each_a each_b n e = (refl, e)
records_same [] (b ∷ rb) x y each_a each_b n e = absurd (omega arith)
records_same (a ∷ ra) [] x y each_a each_b n e = absurd (omega arith)
records_same (a ∷ ra) (b ∷ rb) x y each_a each_b n e =
    let parts : a ++ (concat ra ++ x) ≡ b ++ (concat rb ++ y)
    = sym (append_assoc a (concat ra) x) ∙ e ∙ append_assoc b (concat rb) y in
    let first = record_same a b (concat ra ++ x) (concat rb ++ y) (All-head IsRecord a ra each_a) (All-head IsRecord b rb each_b) parts in
    let others = records_same ra rb x y (All-tail IsRecord a ra each_a) (All-tail IsRecord b rb each_b) (omega arith) first.1 in
    (cc, others.1)

-- bytes are divided in one way
pub divided_same : (body : List ℕ) (rs ss : List (List ℕ)) (x y : List ℕ) → IsDivided body rs x → IsDivided body ss y → (rs ≡ ss) × (x ≡ y)
divided_same body rs ss x y c d =
    records_same rs ss x y c.each d.each (omega (arith, c.longest ss y d.concatenated d.each d.few, d.longest rs x c.concatenated c.each c.few)) (sym c.concatenated ∙ d.concatenated)
