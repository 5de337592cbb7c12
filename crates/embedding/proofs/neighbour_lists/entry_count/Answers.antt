use Rattle.std.proofs.Common.{◌≡◌, ℕ, List, length, get_or, sym, ap, ◌∙◌, arith}
use Rattle.planar_code.specs.Stream.{lists_of}
use Rattle.embedding.proofs.WrittenLists.{written_few}
use Rattle.embedding.proofs.neighbour_lists.entry_count.Goals as goal

pub returns-clause-few : goal.returns-clause-few
returns-clause-few c =
    let is = c.bytes.ensures.is_record in
    let first : length (lists_of c.args.rec.now) ≡ length is.lists =
    sym (ap (λ (xs : List ℕ). get_or xs 0 0) c.bytes.ensures.spelt) ∙ ap (λ (xs : List ℕ). get_or xs 0 0) is.spelt in
    omega (arith, ap length c.bytes.ensures.value, ap length c.bytes.ensures.spelt, written_few (lists_of c.args.rec.now) c.bytes.ensures.each, first, is.few)
