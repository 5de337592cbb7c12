use Rattle.std.proofs.Common.{rules, ◌≡◌, ◌∷◌, [], ◌++◌, sym, subst, ap, ◌∙◌, append_assoc, length-append, arith}
use Rattle.std.proofs.lemmas.List.{take_all}
use Rattle.std.specs.Vec.Iter.{drain_items}
use Rattle.lanes.proofs.Accepting.{accepts_next}
use Rattle.lanes.proofs.Numbers.{kept_next, kept_as}
use Rattle.lanes.proofs.reading.FileReceiverReceiver.receive.Goals as goal

pub keep-requires : goal.keep-requires
keep-requires g c =
    let inv = c.loop-rec.invariant in
    let accepts = g.K.RecordSink.accepts c.args.self.now.sink.now c.args.self.now.file in
    let whole : c.args.records.now.items ≡ drain_items c.into_iter-rec-iterator.result =
    sym (ap drain_items c.into_iter-rec-iterator.ensures.into_iter_gives ∙ c.drain-rec-items.ensures.rest ∙ take_all _ c.args.records.now.items (omega arith)) in
    let first : accepts c.loop-rec.ordinal c.in-Some.rec =
    accepts_next accepts c.args.first c.loop-rec.ordinal c.args.records.now.items c.loop-rec.yielded _ _ c.in-Some.rec c.requires.accepted (whole ∙ inv.left) c.in-Some.ensures.steps.0 inv.next in
    subst (λ f. g.K.RecordSink.accepts c.loop-rec.self.sink.now f c.loop-rec.ordinal c.in-Some.rec) (sym inv.same.1) (g.met.K.RecordSink.accepts_on _ _ _ _ _ inv.stays first)

pub loop-rec-preserved : goal.loop-rec-preserved
loop-rec-preserved g c =
    let inv = c.loop-rec.invariant in
    record {
      can = search rules;
      finite = search rules;
      left = inv.left ∙ ap (λ l. c.loop-rec.yielded ++ l) c.in-Some.ensures.steps.0 ∙ sym (append_assoc c.loop-rec.yielded (c.in-Some.rec ∷ []) _);
      next = omega (arith, inv.next, length-append c.loop-rec.yielded (c.in-Some.rec ∷ []));
      same = search rules;
      kept = kept_next _ _ _ _ _ _ _ _ _ inv.next inv.kept (kept_as _ _ _ _ _ _ _ _ inv.same c.in_ok-keep.ensures.kept);
      name = search rules;
      stays = g.met.K.RecordSink.stays_on _ _ _ inv.stays c.in_ok-keep.ensures.stays;
    }
