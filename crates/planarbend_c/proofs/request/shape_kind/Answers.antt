use Rattle.std.proofs.Common.{◌≡◌, ◌∙◌, Option, Some, None, refl}
use Rattle.std.specs.Prelude.{unwrap_or}
use Rattle.common.specs.declared.parameters.DrawingKind.{DrawingKind}
use Rattle.common.specs.declared.parameters.DrawingKind.TheVariants.{Quick}
use Rattle.planarbend_c.specs.Requests.{shape_kind}
use Rattle.planarbend_c.proofs.request.shape_kind.Goals as goal

same : (kind : Option DrawingKind) → unwrap_or kind Quick ≡ shape_kind kind
same None = refl
same (Some kind) = refl

pub returns : goal.returns
returns c = c.unwrap_or.ensures ∙ same c.args.kind
