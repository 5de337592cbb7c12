-- What a piece of a stream leads to: one lemma for each way that a step ends.
use Rattle.std.proofs.Common.{◌≡◌, ◌≢◌, ℕ, suc, ◌+◌, ◌<◌, List, [], ◌∷◌, ◌++◌, inl, inr, length, take, drop, get_or, refl, sym, ap, subst, ◌∙◌, arith, append_assoc, append-nil, length-append, length-drop}
use Rattle.std.specs.List.{concat}
use Rattle.std.proofs.lemmas.List.{take_more, take-append-drop, append_cancel_left}
use Rattle.std.proofs.lemmas.List.Elements.{All-push, All-nil, All-cons}
use Rattle.std.proofs.Math.Seq.{drop-cons}
use Rattle.planar_code.specs.declared.TheConstants.{HEADER, MAX_RECORDS}
use Rattle.planar_code.specs.declared.partial_record.FeedFault.{FeedFault}
use Rattle.planar_code.specs.declared.partial_record.FeedFault.TheVariants as fault
use Rattle.planar_code.specs.Stream.{IsEntry, IsList, IsRecord, IsUnfinished, NoRecordFirst}
use Rattle.planar_code.specs.Split.{BeginsWithZero, EndsAs, IsSplit, ending_of}
use Rattle.planar_code.specs.Started.{IsOversize}
use Rattle.planar_code.specs.FramerState.{FramerState, Early, After, Failed, StandsAt, Goes}
use Rattle.planar_code.proofs.Records.{no_record-unfinished}
use Rattle.planar_code.proofs.Divisions.{IsStuck, concat-push, divided_from}

-- no bytes begin a record
pub unfinished-none : IsUnfinished []
unfinished-none = record {
  missing = 1 ∷ 0 ∷ [];
  more = λ e. (cc);
  whole = record {
    lists = [] ∷ [];
    spelt = refl;
    each = All-cons IsList [] [] (record { each = All-nil IsEntry; short = omega arith }) (All-nil IsList);
    some = omega arith;
    few = omega arith;
  };
}

-- two pieces, one after the other
pub goes_on : (p q r : FramerState) (a b : List ℕ) (x y : List (List ℕ)) → Goes p a x q → Goes q b y r → Goes p (a ++ b) (x ++ y) r
goes_on p q r a b x y first second stream records s =
    subst (λ z. StandsAt z (records ++ (x ++ y)) r) (append_assoc stream a b)
    (subst (λ z. StandsAt ((stream ++ a) ++ b) z r) (append_assoc records x y) (second (stream ++ a) (records ++ x) (first stream records s)))

-- no piece at all
pub goes_nowhere : (p : FramerState) → Goes p [] [] p
goes_nowhere p stream records s =
    subst (λ z. StandsAt z (records ++ []) p) (sym (append-nil stream))
    (subst (λ z. StandsAt stream z p) (sym (append-nil records)) s)

-- it is enough to add no records
adds_none : (records : List (List ℕ)) (stream : List ℕ) (p : FramerState) → StandsAt stream records p → StandsAt stream (records ++ []) p
adds_none records stream p s = subst (λ z. StandsAt stream z p) (sym (append-nil records)) s

-- the partial record goes on
pub goes_more : (count : ℕ) (rest text : List ℕ) → count ≢ MAX_RECORDS → IsUnfinished (rest ++ text) → Goes (After count rest) text [] (After count (rest ++ text))
goes_more count rest text room unfinished stream records s = adds_none records (stream ++ text) (After count (rest ++ text)) (record {
  body = s.body ++ text;
  with_header = ap (λ z. z ++ text) s.with_header ∙ append_assoc HEADER s.body text;
  divided = divided_from (s.body ++ text) records (rest ++ text) (ap (λ z. z ++ text) s.divided.concatenated ∙ append_assoc (concat records) rest text) s.divided.each s.divided.few (inr (no_record-unfinished (rest ++ text) unfinished));
  counted = s.counted;
  partial_record = unfinished;
  full = λ e. absurd (room e);
})

-- the partial record is whole
pub goes_whole : (count : ℕ) (rest text bytes : List ℕ) → count < MAX_RECORDS → bytes ≡ rest ++ text → IsRecord bytes → Goes (After count rest) text (bytes ∷ []) (After (count + 1) [])
goes_whole count rest text bytes room same whole stream records s =
    let n = length-append records (bytes ∷ []) in
    let counted = s.counted in
    record {
      body = s.body ++ text;
      with_header = ap (λ z. z ++ text) s.with_header ∙ append_assoc HEADER s.body text;
      divided = divided_from (s.body ++ text) (records ++ bytes ∷ []) []
          (ap (λ z. z ++ text) s.divided.concatenated ∙ append_assoc (concat records) rest text ∙ ap (λ z. concat records ++ z) (sym same) ∙ sym (concat-push records bytes) ∙ sym (append-nil (concat (records ++ bytes ∷ []))))
          (All-push IsRecord records bytes s.divided.each whole)
          (omega arith)
          (inr (no_record-unfinished [] unfinished-none));
      counted = omega arith;
      partial_record = unfinished-none;
      full = λ e. refl;
    }

-- a fault: whatever follows, there are no more records, and the rest ends so
fails : (count : ℕ) (rest text : List ℕ) (f : FeedFault) → ((more : List ℕ) → IsStuck count (rest ++ (text ++ more))) → ((more : List ℕ) → EndsAs count (rest ++ (text ++ more)) (ending_of f)) → Goes (After count rest) text [] (Failed f)
fails count rest text f stuck ends stream records s = adds_none records (stream ++ text) (Failed f) (λ more. inr (record {
  body = s.body ++ (text ++ more);
  rest = rest ++ (text ++ more);
  with_header = append_assoc stream text more ∙ ap (λ z. z ++ (text ++ more)) s.with_header ∙ append_assoc HEADER s.body (text ++ more);
  divided = divided_from (s.body ++ (text ++ more)) records (rest ++ (text ++ more)) (ap (λ z. z ++ (text ++ more)) s.divided.concatenated ∙ append_assoc (concat records) rest (text ++ more)) s.divided.each s.divided.few (subst (λ n. IsStuck n (rest ++ (text ++ more))) (sym s.counted) (stuck more));
  ends = subst (λ n. EndsAs n (rest ++ (text ++ more)) (ending_of f)) (sym s.counted) (ends more);
}))

-- bytes with some bytes in them are not empty
some_after : (a b c : List ℕ) → b ≢ [] → a ++ (b ++ c) ≢ []
some_after [] [] c some e = some refl
some_after [] (x ∷ b) c some e = cc
some_after (x ∷ a) b c some e = cc

-- a byte after the last of 1,000,000 records
pub fails_many : (count : ℕ) (rest text : List ℕ) → count ≡ MAX_RECORDS → text ≢ [] → Goes (After count rest) text [] (Failed fault.Many)
fails_many count rest text full some =
    fails count rest text fault.Many (λ more. inl full) (λ more. (some_after rest text more some, full))

-- what begins with byte 0 has no record first
pub no_record-zero : (bytes : List ℕ) → BeginsWithZero bytes → NoRecordFirst bytes
no_record-zero bytes z first rest r e =
    let start = z.1 in
    let spelt = ap (λ b. b ++ rest) r.spelt in
    let none : 0 ≡ length r.lists = cc in
    let some = r.some in
    omega arith

zero_on : (rest text more : List ℕ) → BeginsWithZero (rest ++ text) → BeginsWithZero (rest ++ (text ++ more))
zero_on rest text more z = (z.0 ++ more, sym (append_assoc rest text more) ∙ ap (λ b. b ++ more) z.1)

-- byte 0 in a record's place
pub fails_large : (count : ℕ) (rest text : List ℕ) → count ≢ MAX_RECORDS → BeginsWithZero (rest ++ text) → Goes (After count rest) text [] (Failed fault.Large)
fails_large count rest text room z =
    fails count rest text fault.Large
    (λ more. inr (no_record-zero (rest ++ (text ++ more)) (zero_on rest text more z)))
    (λ more. (zero_on rest text more z, room))

-- what is oversize has no record first, is no record's beginning, and does not begin with byte 0
oversize_on : (bytes more : List ℕ) → IsOversize bytes → IsOversize (bytes ++ more)
oversize_on [] more o = absurd (o.some refl)
oversize_on (x ∷ bytes) more o = record {
  some = λ e. (cc);
  nonzero = λ z. let head = z.1 in o.nonzero (bytes, (cc));
  never = λ later. subst NoRecordFirst (sym (append_assoc (x ∷ bytes) more later)) (o.never (more ++ later));
}

pub no_record-oversize : (bytes : List ℕ) → IsOversize bytes → NoRecordFirst bytes
no_record-oversize bytes o = subst NoRecordFirst (append-nil bytes) (o.never [])

-- a list that is too long
pub fails_oversize : (count : ℕ) (rest text : List ℕ) → count ≢ MAX_RECORDS → IsOversize (rest ++ text) → Goes (After count rest) text [] (Failed fault.Oversize)
fails_oversize count rest text room o =
    let on : (more : List ℕ) → IsOversize (rest ++ (text ++ more))
    = λ more. subst IsOversize (append_assoc rest text more) (oversize_on (rest ++ text) more o) in
    fails count rest text fault.Oversize
    (λ more. inr (no_record-oversize (rest ++ (text ++ more)) (on more)))
    (λ more. (
      (λ u. (on more).never u.missing ((rest ++ (text ++ more)) ++ u.missing) [] u.whole (sym (append-nil ((rest ++ (text ++ more)) ++ u.missing)))),
      (on more).nonzero,
      (on more).some,
      room,
    ))

-- one byte more of the header
pub goes_early : (passed x : ℕ) → passed + 1 < 15 → x ≡ get_or HEADER passed 0 → Goes (Early (take passed HEADER)) (x ∷ []) [] (Early (take (passed + 1) HEADER))
goes_early passed x room same stream records s = adds_none records (stream ++ x ∷ []) (Early (take (passed + 1) HEADER)) (record {
  none = s.none;
  same = ap (λ z. z ++ x ∷ []) s.same ∙ ap (λ y. take passed HEADER ++ y ∷ []) same ∙ sym (take_more HEADER passed 0 (omega arith));
  missing = drop (passed + 1) HEADER;
  more = λ e. absurd (omega (arith, ap length e, length-drop (passed + 1) HEADER));
  whole = take-append-drop (passed + 1) HEADER;
})

-- the header alone
pub standing-header : StandsAt HEADER [] (After 0 [])
standing-header = record {
  body = [];
  with_header = refl;
  divided = divided_from [] [] [] refl (All-nil IsRecord) (omega arith) (inr (no_record-unfinished [] unfinished-none));
  counted = refl;
  partial_record = unfinished-none;
  full = λ e. refl;
}

-- the last byte of the header
pub goes_with_header : (passed x : ℕ) → passed + 1 ≡ 15 → x ≡ get_or HEADER passed 0 → Goes (Early (take passed HEADER)) (x ∷ []) [] (After 0 [])
goes_with_header passed x last same stream records s = adds_none records (stream ++ x ∷ []) (After 0 [])
    (subst (λ z. StandsAt (stream ++ x ∷ []) z (After 0 [])) (sym s.none)
    (subst (λ z. StandsAt z [] (After 0 []))
    (sym (ap (λ z. z ++ x ∷ []) s.same ∙ ap (λ y. take passed HEADER ++ y ∷ []) same ∙ sym (take_more HEADER passed 0 (omega arith)) ∙ ap (λ n. take n HEADER) last))
    standing-header))

-- a byte that differs from the header
pub fails_header : (passed x : ℕ) (text : List ℕ) → passed < 15 → x ≢ get_or HEADER passed 0 → Goes (Early (take passed HEADER)) (x ∷ text) [] (Failed fault.Header)
fails_header passed x text room other stream records s = adds_none records (stream ++ (x ∷ text)) (Failed fault.Header) (λ more. inl (record {
  header = λ body e.
      let whole : HEADER ≡ take passed HEADER ++ (get_or HEADER passed 0 ∷ drop (suc passed) HEADER)
      = sym (take-append-drop passed HEADER) ∙ ap (λ z. take passed HEADER ++ z) (drop-cons HEADER passed 0 room) in
      let left : (stream ++ (x ∷ text)) ++ more ≡ take passed HEADER ++ (x ∷ (text ++ more))
      = append_assoc stream (x ∷ text) more ∙ ap (λ z. z ++ (x ∷ (text ++ more))) s.same in
      let right : HEADER ++ body ≡ take passed HEADER ++ (get_or HEADER passed 0 ∷ (drop (suc passed) HEADER ++ body))
      = ap (λ z. z ++ body) whole ∙ append_assoc (take passed HEADER) (get_or HEADER passed 0 ∷ drop (suc passed) HEADER) body in
      let tails = append_cancel_left (take passed HEADER) _ _ (sym left ∙ e ∙ right) in
      other (cc);
  none = s.none;
  ends = refl;
}))

-- a framer that has failed stays where it is
pub goes_failed : (f : FeedFault) (text : List ℕ) → Goes (Failed f) text [] (Failed f)
goes_failed f text stream records s = adds_none records (stream ++ text) (Failed f) (λ more.
    subst (λ z. IsSplit z records (ending_of f)) (sym (append_assoc stream text more)) (s (text ++ more)))
