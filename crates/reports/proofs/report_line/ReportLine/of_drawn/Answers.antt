use Rattle.std.proofs.Common.{◌≡◌, ◌++◌, ◌∙◌, ℕ, List, ap, append_assoc, codes, decimal}
use Rattle.reports.specs.Report.{sizes_text}
use Rattle.reports.proofs.report_line.ReportLine.of_drawn.Goals as goal

joined : (a b c d e f : List ℕ) → (((a ++ b) ++ c) ++ d) ++ (e ++ f) ≡ ((a ++ b) ++ ((c ++ d) ++ e)) ++ f
joined a b c d e f = simp append_assoc

pub returns : goal.returns
returns c =
    let number = decimal c.args.number in
    let sizes = sizes_text c.args.plane.now c.args.shape.now in
    λ prices points.
    c.push-3.ensures ∙ ap (λ (line : List ℕ). line ++ codes " drawn=yes\n") (
    c.push_sizes.ensures.text ∙ ap (λ (line : List ℕ). line ++ sizes) (
    c.push-2.ensures ∙ ap (λ (line : List ℕ). line ++ codes " ok") (
    c.push_number.ensures.text ∙ ap (λ (line : List ℕ). line ++ number) (
    c.push.ensures ∙ ap (λ (line : List ℕ). line ++ codes "graph ") c.new-line.ensures))))
    ∙ joined (codes "graph ") number (codes " ok") sizes (codes " drawn=yes") (codes "\n")
