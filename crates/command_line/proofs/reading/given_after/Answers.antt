use Rattle.std.proofs.Common.{◌≡◌, ◌∙◌, ◌+◌, if◌then◌else◌, ℕ, Bool, true, false, List, Option, None, Some, Bor, MatchOption, option_map, length, drop, ap, sym, subst}
use Rattle.std.specs.Str.{IsCharBoundary}
use Rattle.std.specs.Str.Pattern.{FindsTextPrefix}
use Rattle.std.proofs.lemmas.Str.Pattern.{starts_text}
use Rattle.command_line.specs.Requests.{given_after}
use Rattle.command_line.proofs.reading.given_after.Goals as goal

stripped : (p s : List ℕ) (r : Option (Bor (List ℕ)))
    → MatchOption r (FindsTextPrefix p s None) (λ x. (n : ℕ) × FindsTextPrefix p s (Some n) × (x.now ≡ drop n s) × (length x.now + n ≡ length s))
    → option_map (λ t. t.now) r ≡ given_after p s
stripped p s None lacks = ap (λ (b : Bool). if b then Some (drop (length p) s) else None) (starts_text false p s lacks)
stripped p s (Some x) found =
    ap (λ (t : List ℕ). Some t) (found.2 ∙ ap (λ (k : ℕ). drop k s) found.1.0)
    ∙ ap (λ (b : Bool). if b then Some (drop (length p) s) else None)
    (starts_text true p s (found.0, found.1, subst (λ k. IsCharBoundary s k) (sym found.1.0) found.1.2))

pub returns : goal.returns
returns c = stripped c.args.front.now c.args.word.now c.strip_prefix.result c.strip_prefix.ensures.cases
