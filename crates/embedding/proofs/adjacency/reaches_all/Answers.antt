use Rattle.std.proofs.Common.{◌≡◌, ◌+◌, true, arith, w64}
use Rattle.std.specs.Int.{trailing_zeros}
use Rattle.std.proofs.Math.Pow.{pow_mono}
use Rattle.std.proofs.lemmas.Bool.{eqb-true}
use Rattle.std.proofs.lemmas.Nat.{one_shl}
use Rattle.std.proofs.lemmas.Nat.Bits.{bit_at-trailing_zeros}
use Rattle.embedding.proofs.RowBits.{first_within, reads_within, all_within, bit_of_and}
use Rattle.embedding.proofs.adjacency.reaches_all.Goals as goal

pub loop-init : goal.loop-init
loop-init c = λ s one closed. (first_within s one, first_within s one)

pub loop-preserved : goal.loop-preserved
loop-preserved c =
    λ s one closed.
    let waiting = c.loop.waiting in
    let vertex = trailing_zeros w64 waiting in
    let so_far = c.loop.invariant s one closed in
    let lowest = bit_at-trailing_zeros w64 waiting (omega arith) (omega arith) in
    let here : s vertex ≡ true = so_far.1 vertex lowest.1 in
    (reads_within c.args.rows.now s c.loop.reached c.loop.reached _ vertex closed here so_far.0 (λ v has. has), reads_within c.args.rows.now s waiting _ _ vertex closed here so_far.1 (λ v has. (bit_of_and _ _ v has).0))

pub overflow_sub-result : goal.overflow_sub-result
overflow_sub-result c =
    omega (arith, one_shl (c.args.n + 1) 64 (omega arith), pow_mono {i = 1} {j = c.args.n + 1} (omega arith))

pub returns : goal.returns
returns c =
    λ test s one closed v from to.
    (c.loop.invariant s one closed).0 v (all_within c.args.n v c.loop.reached (omega arith) from to (eqb-true _ _ test))
