-- How much a framer has read that still runs.
use Rattle.std.proofs.Common.{ℕ, ◌+◌, ◌*◌, ◌≤◌, Bool, List, [], ◌∷◌, Option, length, All, refl, ap, arith, length-append}
use Rattle.std.specs.List.{concat}
use Rattle.std.proofs.lemmas.List.Elements.{All-head, All-tail}
use Rattle.planar_code.specs.declared.TheConstants.{HEADER}
use Rattle.planar_code.specs.Stream.{IsRecord, IsUnfinished}
use Rattle.planar_code.specs.FramerState.{FramerState, Early, After, Failed, StandsAt, HasNotFailed}
use Rattle.planar_code.proofs.Started.{length-record}
use Rattle.streams.specs.Reading.{IsBeingRead}

-- a bound on the bytes of a number of records
length-records : (records : List (List ℕ)) → All IsRecord records → length (concat records) ≤ 65026 * length records
length-records [] each = omega arith
length-records (r ∷ records) each =
    omega (arith, length-append r (concat records), length-record r (All-head IsRecord r records each), length-records records (All-tail IsRecord r records each))

-- a record that is begun is no longer than a whole one
length-unfinished : (bytes : List ℕ) → IsUnfinished bytes → length bytes ≤ 65026
length-unfinished bytes u = omega (arith, length-append bytes u.missing, length-record _ u.whole)

-- the header, 1,000,000 records and one more that is begun
pub length-running : (read : List ℕ) (records : List (List ℕ)) (state : FramerState) → StandsAt read records state → HasNotFailed state
    → length read ≤ 15 + 65026 * 1000001
length-running read records (Early front) s running =
    omega (arith, ap length s.same, length-append front s.missing, ap length s.whole)
length-running read records (After count rest) s running =
    let few = s.divided.few in
    omega (
      arith,
      ap length s.with_header,
      length-append HEADER s.body,
      ap length s.divided.concatenated,
      length-append (concat records) rest,
      length-records records s.divided.each,
      length-unfinished rest s.partial_record,
    )
length-running read records (Failed f) s running = absurd (running f refl)

-- so no source is read in more rounds
pub few_rounds : (known : Option (List ℕ)) (known_fails : Bool) (rounds : ℕ) (to_come : Option (List ℕ)) (fails : Bool) (records : List (List ℕ)) (state : FramerState)
    → IsBeingRead known known_fails rounds to_come fails records state → rounds ≤ 15 + 65026 * 1000001
few_rounds known known_fails rounds to_come fails records state r =
    let went = r.went in omega (arith, length-running r.read records state r.stands r.running)
