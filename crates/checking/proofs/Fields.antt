-- What a line does not say.
use Rattle.std.proofs.Common.{◌≡◌, ℕ, List, Option, None, Some, is_some, option_map, true, false, refl, codes, sym, subst, ◌∙◌}
use Rattle.serde_json.specs.Data.{Data}
use Rattle.serde_json.specs.Find.{get}
use Rattle.ortho_rep.specs.Points.{PointsModel}
use Rattle.referee.specs.declared.claims.Claims.{Claims}
use Rattle.checking.specs.Values.{IsTextOf}
use Rattle.checking.specs.LineContents.{HasFields, HasRanges, SaysNothing}

-- a line is the text of one value
same_value : (line : List ℕ) (value other : Data) → IsTextOf line value → IsTextOf line other → value ≡ other
same_value line value other one two = let e : Some value ≡ Some other = sym one.text ∙ two.text in cc

-- a line whose value says no drawing and is no end says nothing
pub nothing_said : (line : List ℕ) (value : Data) → IsTextOf line value → get (codes "end") value ≡ None
    → ((points : PointsModel) (claims : Claims) → HasRanges points claims → HasFields value points claims → ⊥) → SaysNothing line
nothing_said line value text goes_on none = record {
  no_end = λ e. e.named (subst (λ (v : Data). get (codes "end") v ≡ None) (same_value line value e.value text e.text) goes_on);
  no_drawing = λ points claims fits says.
      none points claims fits (subst (λ (v : Data). HasFields v points claims) (sym (same_value line value says.value text says.text)) says.fields);
}

-- whether there is something
pub none_of : {A : Type 0} (o : Option A) → is_some o ≡ false → o ≡ None
none_of None is = refl
none_of (Some x) is = cc

pub some_of : {A : Type 0} (o : Option A) → is_some o ≡ true → o ≡ None → ⊥
some_of None is none = cc
some_of (Some x) is none = cc

-- what is found is missing where nothing was found
pub not_named : {A B : Type 0} (f : A → B) (o : Option A) (found : Option B) → option_map f o ≡ found → is_some o ≡ false → found ≡ None
not_named f None found is none = sym is
not_named f (Some x) found is none = cc
