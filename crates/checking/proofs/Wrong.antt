-- The first wrong element of an array, and fields that are wrong.
use Rattle.std.proofs.Common.{◌≡◌, ◌≢◌, ℕ, zero, suc, ◌+◌, ◌^◌, ◌<◌, List, [], ◌∷◌, ◌++◌, length, map, take, drop, get_or, All, Option, Some, None, refl, subst, sym, ap, ◌∙◌, append_assoc, arith}
use Rattle.std.specs.Prelude.{MatchOption}
use Rattle.std.proofs.lemmas.List.{length-map, map-append, map_more, take-append-drop}
use Rattle.serde_json.specs.Data.{Data, Items, array}
use Rattle.serde_json.specs.Find.{get}
use Rattle.serde_json.specs.View.{view, items_of}
use Rattle.serde_json.specs.declared.value.Value.{Value}
use Rattle.checking.specs.declared.json.LineFault.{LineFault}
use Rattle.checking.specs.declared.json.LineFault.TheVariants.{Malformed, Points, Number, Angles, Turns, Prices, Memory}
use Rattle.checking.specs.Values.{natural}
use Rattle.checking.specs.Wrong.{HasWrongElement, IsMissingOrWrong, IsWrongPriceList, IsWrongPriceValue, IsWrongPoint}
use Rattle.checking.proofs.Parts.{same_arrays, says_none}
use Rattle.checking.proofs.Prices.{list_named}

-- a list, divided at an element
divided : {A : Type 0} (f : A → Data) (values : List Value) (i : ℕ) (v : Value) (bs : List A)
    → i < length values → v ≡ get_or values i v → map view (take i values) ≡ map f bs → map view values ≡ map f bs ++ view v ∷ map view (drop (i + 1) values)
divided f values i v bs below here before =
    let rest : List Data = map view (drop (i + 1) values) in
    ap (map view) (sym (take-append-drop (i + 1) values))
    ∙ map-append view (take (i + 1) values) (drop (i + 1) values)
    ∙ ap (λ (l : List Data). l ++ rest) (map_more view values i v below)
    ∙ ap (λ (w : Value). (map view (take i values) ++ view w ∷ []) ++ rest) (sym here)
    ∙ ap (λ (l : List Data). (l ++ view v ∷ []) ++ rest) before
    ∙ append_assoc (map f bs) (view v ∷ []) rest

pub wrong_element : {A : Type 0} (f : A → Data) (R : A → Type 0) (W : Data → LineFault → Type 0) (values : List Value) (d : Data) (i : ℕ) (v : Value) (bs : List A) (fault : LineFault)
    → d ≡ array (items_of (map view values)) → i < length values → v ≡ get_or values i v → map view (take i values) ≡ map f bs → All R bs → W (view v) fault
    → HasWrongElement A f R W d fault
wrong_element f R W values d i v bs fault is below here before right wrong = record {
  before = bs;
  right = right;
  element = view v;
  others = map view (drop (i + 1) values);
  elements_are = is ∙ ap (λ (l : List Data). array (items_of l)) (divided f values i v bs below here before);
  wrong = wrong;
}

-- a field that is missing, or there
pub is_missing : (W : Data → LineFault → Type 0) (name : List ℕ) (value : Data) (fault : LineFault) → get name value ≡ None → fault ≡ Points → IsMissingOrWrong W name value fault
is_missing W name value fault none is = subst (λ (o : Option Data). MatchOption o (fault ≡ Points) (λ field. W field fault)) (sym none) is

pub is_wrong : (W : Data → LineFault → Type 0) (name : List ℕ) (value field : Data) (fault : LineFault) → get name value ≡ Some field → W field fault → IsMissingOrWrong W name value fault
is_wrong W name value field fault some is = subst (λ (o : Option Data). MatchOption o (fault ≡ Points) (λ f. W f fault)) (sym some) is

-- ---- prices

same_field : (o : Option Data) (d e : Data) → Some e ≡ o → o ≡ Some d → e ≡ d
same_field o d e found named = cc

-- a list of prices that is wrong is a wrong field
pub wrong_list_at : (name : List ℕ) (value found : Data) (fault : LineFault) → Some found ≡ get name value → IsWrongPriceValue found fault → IsWrongPriceList name value fault
wrong_list_at name value found Prices is wrong = λ items named. wrong (items, same_field (get name value) (array items) found is named)
wrong_list_at name value found Number is wrong = (
  (wrong.0.0, sym is ∙ ap Some wrong.0.1),
  λ prices short has. wrong.1 prices short (list_named name value found prices is has),
)
wrong_list_at name value found Malformed is wrong = absurd wrong
wrong_list_at name value found Points is wrong = absurd wrong
wrong_list_at name value found Angles is wrong = absurd wrong
wrong_list_at name value found Turns is wrong = absurd wrong
wrong_list_at name value found Memory is wrong = absurd wrong

-- ---- points

pair_of : (values : List Value) → length values ≡ 2 → (x : Data) × (y : Data) × (map view values ≡ x ∷ y ∷ [])
pair_of [] two = absurd (omega (arith, two))
pair_of (a ∷ []) two = absurd (omega (arith, two))
pair_of (a ∷ b ∷ []) two = (view a, view b, refl)
pair_of (a ∷ b ∷ c ∷ rest) two = absurd (omega (arith, two))

both_of : (P : ℕ → Type 0) (x y : ℕ) → P x → P y → All P (x ∷ y ∷ [])
both_of P x y px py zero d lt = px
both_of P x y px py (suc zero) d lt = py
both_of P x y px py (suc (suc k)) d lt = absurd (omega (arith, lt))

-- an array of another length is no pair
pub no_pair : (values : List Value) (d : Data) → d ≡ array (items_of (map view values)) → (length values ≡ 2 → ⊥) → IsWrongPoint d Points
no_pair values d is other (x, y, pair) =
    let same : map view values ≡ x ∷ y ∷ [] = same_arrays _ _ (sym is ∙ pair) in
    other (sym (length-map values view) ∙ ap length same)

-- a pair with a coordinate that is out of range
pub bad_coordinate : (values : List Value) (d : Data) (i : ℕ) (v : Value) → d ≡ array (items_of (map view values)) → length values ≡ 2 → i < 2 → v ≡ get_or values i v
    → ((n : ℕ) → n < 2 ^ 32 → view v ≢ natural n) → IsWrongPoint d Number
bad_coordinate values d i v is two below here none =
    let pair = pair_of values two in (
      (pair.0, pair.1, is ∙ ap (λ (l : List Data). array (items_of l)) pair.2),
      λ point short said.
          says_none natural (λ n. n < 2 ^ 32) values d i v 0 is (omega (arith, two, below)) here none
          (point.x ∷ point.y ∷ []) (both_of (λ n. n < 2 ^ 32) point.x point.y short.0 short.1) said,
    )
