use Rattle.std.proofs.Common.{subst, sym}
use Rattle.answers.specs.Steps.{IsEmbedded}
use Rattle.planarbend_c.specs.declared.request.Parsed.{Parsed}
use Rattle.planarbend_c.specs.Sources.{parsed_lists}
use Rattle.planarbend_c.proofs.request.Parsed.embed.Goals as goal

pub returns-in-Bytes : goal.returns-in-Bytes
returns-in-Bytes c = subst (λ (p : Parsed). IsEmbedded (parsed_lists p) c.embed.result) (sym c.in-Bytes.is) c.embed.ensures

pub returns-in-Entries : goal.returns-in-Entries
returns-in-Entries c = subst (λ (p : Parsed). IsEmbedded (parsed_lists p) c.embed_wide.result) (sym c.in-Entries.is) c.embed_wide.ensures
