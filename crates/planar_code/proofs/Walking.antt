-- Every stream of bytes splits: byte for byte, it leads to some state.
use Rattle.std.proofs.Common.{◌≢◌, ℕ, ◌+◌, ◌-◌, ◌<◌, ◌≤◌, List, [], ◌∷◌, ◌++◌, inl, inr, All, take, get_or, refl, sym, ap, subst, arith}
use Rattle.std.proofs.lemmas.Bool.{cases_eq}
use Rattle.std.proofs.lemmas.List.Elements.{All-head, All-tail}
use Rattle.planar_code.specs.declared.TheConstants.{HEADER, MAX_RECORDS}
use Rattle.planar_code.specs.declared.partial_record.Ending.{Ending}
use Rattle.planar_code.specs.declared.partial_record.Ending.TheVariants as ending
use Rattle.planar_code.specs.declared.partial_record.FeedFault.{FeedFault}
use Rattle.planar_code.specs.declared.partial_record.FeedFault.TheVariants as fault
use Rattle.planar_code.specs.Stream.{IsRecord}
use Rattle.planar_code.specs.Split.{IsSplit, ending_of, BeginsWithZero}
use Rattle.planar_code.specs.Started.{IsStarted, HasBegun}
use Rattle.planar_code.specs.FramerState.{FramerState, Early, After, Failed, StandsAt, Goes}
use Rattle.planar_code.proofs.Started.{started-first, started-entry, started-end, started-whole, started-unfinished, started-oversize}
use Rattle.planar_code.proofs.LeadsTo.{goes_on, goes_nowhere, goes_more, goes_whole, goes_early, goes_with_header, goes_failed, fails_many, fails_large, fails_oversize, fails_header}
use Rattle.planar_code.proofs.Feeding.{split-early, split-complete, split-truncated, split-failed}

-- places of which enough is known to go on
data Known : FramerState → Type 0 where
  early : (passed : ℕ) → passed < 15 → Known (Early (take passed HEADER))
  after : (count : ℕ) (rest : List ℕ) (remaining entries : ℕ) → HasBegun rest remaining entries → count ≤ MAX_RECORDS → Known (After count rest)
  failed : (f : FeedFault) → Known (Failed f)

-- where some bytes lead
record Leads (p : FramerState) (bytes : List ℕ) : Type 0 where
  added : List (List ℕ)
  state : FramerState
  known : Known state
  goes : Goes p bytes added state

-- the record goes on
leads-more : (count : ℕ) (rest : List ℕ) (x remaining entries : ℕ) → count ≢ MAX_RECORDS → count ≤ MAX_RECORDS → IsStarted (rest ++ x ∷ []) remaining entries → Leads (After count rest) (x ∷ [])
leads-more count rest x remaining entries room few s = record {
  added = [];
  state = After count (rest ++ x ∷ []);
  known = after count (rest ++ x ∷ []) remaining entries (inr s) few;
  goes = goes_more count rest (x ∷ []) room (started-unfinished (rest ++ x ∷ []) remaining entries s);
}

-- a byte of a record
leads-after : (count : ℕ) (rest : List ℕ) (remaining entries x : ℕ) → HasBegun rest remaining entries → count ≤ MAX_RECORDS → count ≢ MAX_RECORDS → x < 256 → Leads (After count rest) (x ∷ [])
leads-after count rest remaining entries x (inl none) few room byte = elim (cases_eq x 0) [
  | inl z ↦ record {
    added = [];
    state = Failed fault.Large;
    known = failed fault.Large;
    goes = fails_large count rest (x ∷ []) room (subst (λ r. BeginsWithZero (r ++ x ∷ [])) (sym none) ([], ap (λ y. y ∷ []) z));
  }
  | inr some ↦ leads-more count rest x x 0 room few (subst (λ r. IsStarted (r ++ x ∷ []) x 0) (sym none) (started-first x (omega (arith, some)) byte))
]
leads-after count rest remaining entries x (inr s) few room byte = elim (cases_eq x 0) [
  | inl z ↦ elim (cases_eq remaining 1) [
    | inl last ↦ record {
      added = (rest ++ x ∷ []) ∷ [];
      state = After (count + 1) [];
      known = after (count + 1) [] 0 0 (inl refl) (omega (arith, room));
      goes = goes_whole count rest (x ∷ []) (rest ++ x ∷ []) (omega (arith, room)) refl (subst (λ y. IsRecord (rest ++ y ∷ [])) (sym z) (started-whole rest remaining entries s last));
    }
    | inr more ↦ let some = s.some in
        leads-more count rest x (remaining - 1) 0 room few (subst (λ y. IsStarted (rest ++ y ∷ []) (remaining - 1) 0) (sym z) (started-end rest remaining entries s (omega (arith, more))))
  ]
  | inr some ↦ elim (cases_eq entries 254) [
    | inl full ↦ record {
      added = [];
      state = Failed fault.Oversize;
      known = failed fault.Oversize;
      goes = fails_oversize count rest (x ∷ []) room (started-oversize rest remaining entries x [] s (omega (arith, some), byte) full);
    }
    | inr short ↦ let m = s.short in
        leads-more count rest x remaining (entries + 1) room few (started-entry rest remaining entries x s (omega (arith, some), byte) (omega (arith, short)))
  ]
]

-- one byte
leads-byte : (p : FramerState) → Known p → (x : ℕ) → x < 256 → Leads p (x ∷ [])
leads-byte _ (early passed room) x byte = elim (cases_eq x (get_or HEADER passed 0)) [
  | inl same ↦ elim (cases_eq (passed + 1) 15) [
    | inl last ↦ record { added = []; state = After 0 []; known = after 0 [] 0 0 (inl refl) (omega arith); goes = goes_with_header passed x last same }
    | inr short ↦ record { added = []; state = Early (take (passed + 1) HEADER); known = early (passed + 1) (omega (arith, short)); goes = goes_early passed x (omega (arith, short)) same }
  ]
  | inr other ↦ record { added = []; state = Failed fault.Header; known = failed fault.Header; goes = fails_header passed x [] room other }
]
leads-byte _ (after count rest remaining entries begun few) x byte = elim (cases_eq count MAX_RECORDS) [
  | inl full ↦ record { added = []; state = Failed fault.Many; known = failed fault.Many; goes = fails_many count rest (x ∷ []) full (λ e. (cc)) }
  | inr room ↦ leads-after count rest remaining entries x begun few room byte
]
leads-byte _ (failed f) x byte = record { added = []; state = Failed f; known = failed f; goes = goes_failed f (x ∷ []) }

-- any bytes
leads : (bytes : List ℕ) → All (λ x. x < 256) bytes → (p : FramerState) → Known p → Leads p bytes
leads [] each p k = record { added = []; state = p; known = k; goes = goes_nowhere p }
leads (x ∷ bytes) each p k =
    let first = leads-byte p k x (All-head (λ x. x < 256) x bytes each) in
    let later = leads bytes (All-tail (λ x. x < 256) x bytes each) first.state first.known in
    record {
      added = first.added ++ later.added;
      state = later.state;
      known = later.known;
      goes = goes_on p first.state later.state (x ∷ []) bytes first.added later.added first.goes later.goes;
    }

-- no bytes stand at the beginning
pub standing-none : StandsAt [] [] (Early [])
standing-none = record { none = refl; same = refl; missing = HEADER; more = λ e. (cc); whole = refl }

-- a state that a stream has led to splits it
split-standing : (p : FramerState) (stream : List ℕ) (records : List (List ℕ)) → StandsAt stream records p → (end : Ending) × IsSplit stream records end
split-standing (Early front) stream records s = (ending.Header, split-early stream records front s)
split-standing (After count []) stream records s = (ending.Complete, split-complete stream records count [] refl s)
split-standing (After count (x ∷ rest)) stream records s = (ending.Truncated, split-truncated stream records count (x ∷ rest) (λ e. (cc)) s)
split-standing (Failed f) stream records s = (ending_of f, split-failed stream records f s)

pub split-exists : (stream : List ℕ) → All (λ x. x < 256) stream → (records : List (List ℕ)) × (end : Ending) × IsSplit stream records end
split-exists stream each =
    let l = leads stream each (Early []) (early 0 (omega arith)) in
    let s = split-standing l.state stream l.added (l.goes [] [] standing-none) in
    (l.added, s.0, s.1)
