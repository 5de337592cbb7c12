use Rattle.std.proofs.Common.{◌∙◌, inl, inr, sym}
use Rattle.std.proofs.lemmas.Bool.{both_ways}
use Rattle.planarbend_c.specs.Held.{contents}
use Rattle.planarbend_c.specs.Sources.{input_of}
use Rattle.planarbend_c.specs.Found.{IsFound, IsFoundKeeping, finding_of}
use Rattle.planarbend_c.specs.Cuts.{cut_contents}
use Rattle.planarbend_c.specs.Outcomes.{IsUnlaid}
use Rattle.planarbend_c.proofs.Told.{answer_of, not_drawn, refused_told, told, unlaid_told}
use Rattle.planarbend_c.proofs.export.answer.Goals as goal

pub returns-in_default-clause-outcome : goal.returns-in_default-clause-outcome
returns-in_default-clause-outcome c =
    let unknown = sym c.choice_of.ensures ∙ c.in_default.is in
    record { plain = λ _. inl (inl unknown); keeping = λ _. inl (inl unknown) }

pub returns-in_default-drawing_of-clause-outcome : goal.returns-in_default-drawing_of-clause-outcome
returns-in_default-drawing_of-clause-outcome c =
    let unknown = sym c.drawing_of.ensures ∙ c.in_default-drawing_of.is in
    record { plain = λ _. inl (inr unknown); keeping = λ _. inl (inr unknown) }

pub write_layout-requires : goal.write_layout-requires
write_layout-requires c = c.in-Ok.ensures.found.drawn

pub returns-in-Ok-clause-outcome : goal.returns-in-Ok-clause-outcome
returns-in-Ok-clause-outcome c =
    let layout = c.in-Ok.layout in
    let found = c.in-Ok.ensures in
    record {
      plain = λ none.
          told IsFound (λ _. ⊥) (input_of c.args.request.now.source) c.args.request.now.outer c.args.request.now.drawing (finding_of layout) c.write_layout.new.counts (contents c.write_layout.new.lists) c.write_layout.result
          (answer_of IsFound (input_of c.args.request.now.source) c.args.request.now.outer c.args.request.now.drawing c.in-Some.choice c.in-Some-drawing_of.kind (finding_of layout)
          (sym c.choice_of.ensures ∙ c.in-Some.is) (sym c.drawing_of.ensures ∙ c.in-Some-drawing_of.is) found.is_record found.found
          found.asked)
          c.write_layout.ensures.told;
      keeping = λ some. absurd (some (c.asks_nothing.ensures.0 c.if-asks_nothing.true));
    }

pub returns-in-Err-clause-outcome : goal.returns-in-Err-clause-outcome
returns-in-Err-clause-outcome c = record {
  plain = λ none. refused_told (input_of c.args.request.now.source) c.args.request.now.outer c.args.request.now.drawing c.args.counts.now (contents c.args.lists.now) c.in-Err.outcome c.in-Err.ensures.fault;
  keeping = λ some. absurd (some (c.asks_nothing.ensures.0 c.if-asks_nothing.true));
}

pub returns-in-Ok-clause-undrawn : goal.returns-in-Ok-clause-undrawn
returns-in-Ok-clause-undrawn c none =
    c.write_layout.ensures.undrawn (not_drawn c.args.request.now.drawing c.in-Some-drawing_of.kind (finding_of c.in-Ok.layout) (sym c.drawing_of.ensures ∙ c.in-Some-drawing_of.is) c.in-Ok.ensures.asked none)

pub write_layout-requires-in-Ok-lay_out_keeping : goal.write_layout-requires-in-Ok-lay_out_keeping
write_layout-requires-in-Ok-lay_out_keeping c = c.in-Ok-lay_out_keeping.ensures.found.drawn

pub returns-in-Ok-lay_out_keeping-clause-outcome : goal.returns-in-Ok-lay_out_keeping-clause-outcome
returns-in-Ok-lay_out_keeping-clause-outcome c =
    let request = c.args.request.now in
    let layout = c.in-Ok-lay_out_keeping.layout in
    let found = c.in-Ok-lay_out_keeping.ensures in
    record {
      plain = λ none. absurd (both_ways c.asks_nothing.result c.if-asks_nothing.false (c.asks_nothing.ensures.1 none));
      keeping = λ some.
          told (IsFoundKeeping request.conditions) (IsUnlaid request (cut_contents c.lay_out_keeping.new.cut)) (input_of request.source) request.outer request.drawing (finding_of layout) c.write_layout-in-Ok-lay_out_keeping.new.counts (contents c.write_layout-in-Ok-lay_out_keeping.new.lists) c.write_layout-in-Ok-lay_out_keeping.result
          (answer_of (IsFoundKeeping request.conditions) (input_of request.source) request.outer request.drawing c.in-Some.choice c.in-Some-drawing_of.kind (finding_of layout)
          (sym c.choice_of.ensures ∙ c.in-Some.is) (sym c.drawing_of.ensures ∙ c.in-Some-drawing_of.is) found.is_record found.found
          found.asked)
          c.write_layout-in-Ok-lay_out_keeping.ensures.told;
    }

pub returns-in-Err-lay_out_keeping-clause-outcome : goal.returns-in-Err-lay_out_keeping-clause-outcome
returns-in-Err-lay_out_keeping-clause-outcome c = record {
  plain = λ none. absurd (both_ways c.asks_nothing.result c.if-asks_nothing.false (c.asks_nothing.ensures.1 none));
  keeping = λ some.
      unlaid_told c.args.request.now c.in-Some.choice c.args.counts.now (contents c.args.lists.now) (cut_contents c.lay_out_keeping.new.cut) c.in-Err-lay_out_keeping.outcome
      (sym c.choice_of.ensures ∙ c.in-Some.is) c.in-Err-lay_out_keeping.ensures.fault;
}

pub returns-in-Ok-lay_out_keeping-clause-undrawn : goal.returns-in-Ok-lay_out_keeping-clause-undrawn
returns-in-Ok-lay_out_keeping-clause-undrawn c none =
    c.write_layout-in-Ok-lay_out_keeping.ensures.undrawn (not_drawn c.args.request.now.drawing c.in-Some-drawing_of.kind (finding_of c.in-Ok-lay_out_keeping.layout) (sym c.drawing_of.ensures ∙ c.in-Some-drawing_of.is) c.in-Ok-lay_out_keeping.ensures.asked none)
