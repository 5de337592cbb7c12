use Rattle.std.proofs.Common.{ℕ, ◌<◌, ◌≤◌, eqb, List, length, get_or, refl, ap, ◌∙◌, arith}
use mir.Val.{bool_byte}
use Rattle.std.specs.List.{flat_map}
use Rattle.std.proofs.lemmas.List.{get_or-set_same, length-set}
use Rattle.std.proofs.lemmas.Grind.{common_steps, same_number_lists}
use Rattle.planar_code.specs.Stream.{ended, lists_in}
use Rattle.embedding.proofs.WrittenLists.{lists_in-no_zero}
use Rattle.embedding.proofs.ListStarts.{next_list, reading_none, reading_step, reading_all}
use Rattle.embedding.proofs.neighbour_lists.copy_lists.Goals as goal

pub bounds-starts-count : goal.bounds-starts-count
bounds-starts-count c =
    let below : c.loop-i.i < length (flat_map ended (lists_in c.args.bytes.now)) = omega (arith, ap length c.requires.spelt) in
    omega (arith, c.loop-i.invariant.reading.room, next_list _ _ _ _ c.loop-i.invariant.reading below)

pub loop-i-init : goal.loop-i-init
loop-i-init c = record {
  copied = λ k below. absurd (omega arith);
  reading = reading_none (lists_in c.args.bytes.now) _ (omega (arith, c.requires.room, length-set c.args.starts.now 0 0)) (get_or-set_same c.args.starts.now 0 0 0 (omega (arith, c.requires.room)));
}

pub loop-i-preserved : goal.loop-i-preserved
loop-i-preserved c =
    let g = lists_in c.args.bytes.now in
    let i = c.loop-i.i in
    let below : i < length (flat_map ended g) = omega (arith, ap length c.requires.spelt) in
    record {
      copied = grind (arith, common_steps, c.loop-i.invariant.copied);
      reading = reading_step g c.loop-i.starts i c.loop-i.count c.from-count.result (lists_in-no_zero c.args.bytes.now) c.loop-i.invariant.reading below (c.from-count.ensures ∙ ap (λ (b : List ℕ). bool_byte (eqb (get_or b i 0) 0)) c.requires.spelt);
    }

pub returns-clause-copied : goal.returns-clause-copied
returns-clause-copied c =
    same_number_lists c.loop-i.entries c.args.bytes.now (omega (arith, c.requires.size, c.loop-i.auto.entries)) (λ k below. c.loop-i.invariant.copied k (omega (arith, c.requires.size, c.loop-i.auto.entries)))

pub returns-clause-starts : goal.returns-clause-starts
returns-clause-starts c =
    let past : length (flat_map ended (lists_in c.args.bytes.now)) ≤ c.loop-i.i = omega (arith, ap length c.requires.spelt) in
    let all = reading_all _ _ _ _ c.loop-i.invariant.reading past in
    λ k b. c.loop-i.invariant.reading.starts_are k (omega (arith, all))
