use Rattle.std.proofs.Common.{inl, sym, subst}
use Rattle.commands.specs.Statuses.{IsOutcome, error_output}
use Rattle.commands.proofs.program.run.Goals as goal

pub returns-in-Ok-clause-outcome : goal.returns-in-Ok-clause-outcome
returns-in-Ok-clause-outcome g c =
    let is = c.command.ensures in
    let words = c.as_slice.result.now in
    inl (
      words,
      subst (λ status. IsOutcome (g.N.NamedFiles.meaning c.args.files.now) words (g.C.Console.has_terminal c.args.console.now)
          (error_output (g.E.Sink.taken c.args.err.now) (g.E.Sink.taken c.command.new.err) (g.E.Sink.failed c.command.new.err)) g.S.Sink.taken g.S.Sink.failed c.args.out.now c.command.new.out status)
          (sym c.from.ensures) (record {
            in_range = is.in_range;
            failed_write = is.failed_write;
            refused = is.refused;
            refusable = is.refusable;
            too_much = is.too_much;
            for_terminal = is.for_terminal;
            version = is.version;
            help = is.help;
            done = is.done;
            judged = is.judged;
            begun = is.begun;
          }),
    )
