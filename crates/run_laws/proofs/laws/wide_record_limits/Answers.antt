use Rattle.std.proofs.Common.{List, ℕ, length, ap, arith}
use Rattle.embedding.proofs.WideRecords.{lists_of-wide}
use Rattle.run_laws.proofs.laws.wide_record_limits.Goals as goal

pub returns-clause-some : goal.returns-clause-some
returns-clause-some c = λ entries r. omega (arith, r.some, ap (λ (g : List (List ℕ)). length g) (lists_of-wide entries r))

pub returns-clause-vertices : goal.returns-clause-vertices
returns-clause-vertices c = λ entries r. omega (arith, r.few, ap (λ (g : List (List ℕ)). length g) (lists_of-wide entries r))

pub returns-clause-entries : goal.returns-clause-entries
returns-clause-entries c = λ entries r. r.short
