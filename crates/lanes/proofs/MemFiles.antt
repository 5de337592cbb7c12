-- What files in memory mean, each and past the last.
use Rattle.std.proofs.Common.{◌≡◌, ℕ, zero, suc, ◌<◌, ◌≤◌, false, List, [], ◌∷◌, Vec, length, get_or, Option, Some, Bool, Ok, Err, refl, ap, ◌∙◌, arith}
use Rattle.std.specs.declared.alloc.Global.{Global}
use Rattle.lanes.specs.declared.run.OpenFault.{OpenFault}
use Rattle.lanes.specs.Opening.{Unopened, Opened, Opens}
use Rattle.lanes.specs.MemFiles.{bytes_at, meaning_in}

pub opened_in : (files : List (Vec ℕ Global)) (k : ℕ) → k < length files → meaning_in files k ≡ Opened (bytes_at files k) false
opened_in [] k below = absurd (omega arith)
opened_in (bytes ∷ files) zero below = refl
opened_in (bytes ∷ files) (suc k) below = opened_in files k (omega arith)

pub unopened_in : (files : List (Vec ℕ Global)) (k : ℕ) → length files ≤ k → meaning_in files k ≡ Unopened
unopened_in [] k past = refl
unopened_in (bytes ∷ files) zero past = absurd (omega arith)
unopened_in (bytes ∷ files) (suc k) past = unopened_in files k (omega arith)

-- so the opened file means what it is to mean, and a number past the last may be refused
pub opens_there : {S : Type 0} (to_come : S → Option (List ℕ)) (fails : S → Bool) (files : List (Vec ℕ Global)) (k : ℕ) (source : S) (there : Vec ℕ Global) → k < length files
    → there ≡ get_or files k there → to_come source ≡ Some there.items → fails source ≡ false → Opens to_come fails (meaning_in files k) (Ok source)
opens_there to_come fails [] k source there below is tells ends = absurd (omega arith)
opens_there to_come fails (bytes ∷ files) zero source there below is tells ends = (tells ∙ ap (λ (v : Vec ℕ Global). Some v.items) is, ends)
opens_there to_come fails (bytes ∷ files) (suc k) source there below is tells ends = opens_there to_come fails files k source there (omega arith) is tells ends

pub opens_past : {S : Type 0} (to_come : S → Option (List ℕ)) (fails : S → Bool) (files : List (Vec ℕ Global)) (k : ℕ) (fault : OpenFault) → length files ≤ k
    → Opens to_come fails (meaning_in files k) (Err fault)
opens_past to_come fails [] k fault past = tt
opens_past to_come fails (bytes ∷ files) zero fault past = absurd (omega arith)
opens_past to_come fails (bytes ∷ files) (suc k) fault past = opens_past to_come fails files k fault (omega arith)
