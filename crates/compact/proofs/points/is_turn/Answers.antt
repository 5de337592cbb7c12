use Rattle.std.proofs.Common.{◌∙◌, sym, ap, inl, inr}
use Rattle.std.proofs.lemmas.Bool.{cases_Bool}
use denote.Enum.Bare.{differs_true, differs_false}
use Rattle.geometry.specs.contracts.direction.Direction.{the_type}
use Rattle.geometry.specs.Directions.{quarters}
use Rattle.dissect.specs.Boxes.{dart_map}
use Rattle.compact.proofs.Walking.{same_way}
use Rattle.compact.proofs.Numbers.{one_number}
use Rattle.compact.proofs.points.is_turn.Goals as goal

pub returns : goal.returns
returns c =
    let same = same_way (dart_map c.args.boxes.now) c.args.before c.args.dart c.direction.ensures.boxes.sound c.requires.before c.requires.dart in (
      λ differs straight.
          let one = one_number c.direction.result c.direction-2.result (c.direction.ensures.value ∙ same.0 straight ∙ sym c.direction-2.ensures.value) in
          differs_true the_type c.direction.result c.direction-2.result (sym c.ne.ensures ∙ differs) one,
      λ turns. elim (cases_Bool c.ne.result) [
        | inl so ↦ so
        | inr not_so ↦
            let one = differs_false the_type tt c.direction.result c.direction-2.result (sym c.ne.ensures ∙ not_so) in
            absurd (turns (same.1 (sym c.direction.ensures.value ∙ ap quarters one ∙ c.direction-2.ensures.value)))
      ],
    )
