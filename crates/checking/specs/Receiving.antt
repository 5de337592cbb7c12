-- Records that are checked list by list.
use Rattle.std.proofs.Common.{◌≡◌, ℕ, ◌+◌, Bool, List, [], ◌++◌, Option, length, sym, subst, append_assoc, append-nil, length-append, arith}
use Rattle.checking.specs.declared.run.Checker.{Checker}
use Rattle.checking.specs.declared.run.CheckOptions.{CheckOptions}
use Rattle.checking.specs.UnderWay.{IsUnderWay, IsCutShortWithin, GoesOnBy, IsCutShortBy}

module _ {L : Type 0} (to_come : L → Option (List ℕ)) (fails : L → Bool) where
  -- no records are checked by checking nothing
  pub goes_by_none : (out : Option (List ℕ)) (checker : Checker L) → GoesOnBy to_come fails 0 [] out out checker checker
  goes_by_none out checker known known_fails start earlier none u =
      subst (λ (rs : List (List ℕ)). IsUnderWay to_come fails known known_fails start out checker rs) (sym (append-nil earlier)) u

  -- as many records come before the others as there are first ones
  all_before : (earlier records : List (List ℕ)) → length earlier ≡ 0 → length (earlier ++ records) ≡ length records
  all_before earlier records none = omega (arith, length-append earlier records)

  -- some records are checked, and then others
  pub goes_by_both : (records others : List (List ℕ)) (first_out out last_out : Option (List ℕ)) (first checker last : Checker L)
      → GoesOnBy to_come fails 0 records first_out out first checker → GoesOnBy to_come fails (length records) others out last_out checker last
      → GoesOnBy to_come fails 0 (records ++ others) first_out last_out first last
  goes_by_both records others first_out out last_out first checker last one two known known_fails start earlier none u =
      subst (λ (rs : List (List ℕ)). IsUnderWay to_come fails known known_fails start last_out last rs) (append_assoc earlier records others)
      (two known known_fails start (earlier ++ records) (all_before earlier records none) (one known known_fails start earlier none u))

  -- some records are checked, and the text is cut short by others
  pub cut_by_both : (records others : List (List ℕ)) (first_out out last_out : Option (List ℕ)) (first checker : Checker L) → checker.options ≡ first.options
      → GoesOnBy to_come fails 0 records first_out out first checker → IsCutShortBy to_come fails (length records) others out last_out checker
      → IsCutShortBy to_come fails 0 (records ++ others) first_out last_out first
  cut_by_both records others first_out out last_out first checker same one two known known_fails start earlier mark surplus none u =
      subst (λ (rs : List (List ℕ)). IsCutShortWithin first.options known known_fails start last_out mark surplus rs) (append_assoc earlier records others)
      (subst (λ (o : CheckOptions). IsCutShortWithin o known known_fails start last_out mark surplus ((earlier ++ records) ++ others)) same
      (two known known_fails start (earlier ++ records) mark surplus (all_before earlier records none) (one known known_fails start earlier none u)))
