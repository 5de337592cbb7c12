use Rattle.std.proofs.Common.{◌≡◌, ◌≤◌, ◌∷◌, ◌++◌, ◌+◌, ℕ, List, [], Bor, ap, drop, get_or, length, refl, subst, sym, ◌∙◌}
use Rattle.std.proofs.lemmas.List.{drop_more}
use Rattle.streams.proofs.Sinks.{added_both, added_none}
use Rattle.collector.specs.declared.find_facts.Flaws.{Flaws}
use Rattle.named_sources.specs.Reasons.{IsWhy}
use Rattle.commands.specs.FlawLines.{lines_of_file}
use Rattle.commands.proofs.FlawTexts.{flaws_end, lines_next, names_end}
use Rattle.commands.proofs.runs.write_flaws.Goals as goal

pub loop-name-init : goal.loop-name-init
loop-name-init g c = record { place = refl; stands = c.requires; told = ([], added_none _, λ rest told. told) }

pub loop-name-preserved : goal.loop-name-preserved
loop-name-preserved g c =
    let before = c.loop-name.invariant.told in
    let names = c.args.names.now in
    let flaws = c.args.flaws.now in
    let i = c.loop-name.name-index in
    let file = c.loop-name.file in
    let d : Bor (List ℕ) = record { ref_ptr = (0, 0); now = [] } in
    let name = get_or names i d in
    let lacking = c.in-Some.lacking.now in
    let found = c.in-Some.ensures.lookup in
    let here : drop file flaws ≡ lacking ∷ drop (file + 1) flaws =
    drop_more flaws file lacking found.3.0 ∙ ap (λ (f : Flaws). f ∷ drop (file + 1) flaws) (sym found.1) in
    record {
      place = ap (λ (n : ℕ). n + 1) c.loop-name.invariant.place;
      stands = c.in-Ok.ensures.stands;
      told = (
        before.0 ++ lines_of_file name.now lacking c.as_str.result.now,
        added_both _ _ _ _ _ before.1 c.in-Ok.ensures.added,
        lines_next names flaws i name lacking c.as_str.result.now before.0 (subst IsWhy (sym c.as_str.ensures.value) c.why-why.ensures) (drop_more names i d c.loop-name-test.true)
            (subst (λ (k : ℕ). drop k flaws ≡ lacking ∷ drop (k + 1) flaws) c.loop-name.invariant.place here) before.2,
      );
    }

pub returns-in_default : goal.returns-in_default
returns-in_default g c = λ stands.
    let before = c.loop-name.invariant.told in
    let past : length c.args.flaws.now ≤ c.loop-name.name-index = subst (λ (k : ℕ). length c.args.flaws.now ≤ k) c.loop-name.invariant.place c.in_default.ensures.lookup.3 in
    (before.0, flaws_end c.args.names.now c.args.flaws.now c.loop-name.name-index before.0 past before.2, before.1)

pub returns : goal.returns
returns g c = λ stands.
    let before = c.loop-name.invariant.told in
    (before.0, names_end c.args.names.now c.args.flaws.now c.loop-name.name-index before.0 c.loop-name-test.false before.2, before.1)
