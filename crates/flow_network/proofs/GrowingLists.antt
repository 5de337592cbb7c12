-- Lists that grow by one element a round.
use Rattle.std.proofs.Common.{◌≡◌, ℕ, ◌<◌, ◌∙◌, List, [], ◌∷◌, ◌++◌, length, get_or, ap}
use Rattle.std.proofs.lemmas.List.{get_or_append_left}

-- the old places keep what they hold
pub push_keeps : {X : Type 0} (xs ys : List X) (x e : X) (k : ℕ) → ys ≡ xs ++ x ∷ [] → k < length xs → get_or ys k e ≡ get_or xs k e
push_keeps {X} xs ys x e k said l = ap (λ (zs : List X). get_or zs k e) said ∙ get_or_append_left xs (x ∷ []) e k l
