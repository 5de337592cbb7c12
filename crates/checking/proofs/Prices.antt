-- Lists of integers in a JSON value.
use Rattle.std.proofs.Common.{◌≡◌, ℕ, zero, suc, ◌+◌, ◌<◌, ℤ, pos, List, [], ◌∷◌, ◌++◌, length, map, take, get_or, All, Option, Some, codes, subst, refl, sym, ap, ◌∙◌, arith}
use Rattle.std.proofs.lemmas.List.{length-map, map-append, map_more}
use Rattle.serde_json.specs.Data.{Data, array}
use Rattle.serde_json.specs.Find.{get}
use Rattle.serde_json.specs.View.{view, items_of}
use Rattle.serde_json.specs.declared.value.Value.{Value}
use Rattle.ortho_rep.specs.Prices.{PricesModel}
use Rattle.checking.specs.Values.{integer_of, AreIntegers, HasIntegers, HasPriceLists, SaysPrices}
use Rattle.checking.proofs.Parts.{same_arrays}

integer_at : (values : List Value) (zs : List ℤ) (i : ℕ) (v : Value) (z : ℤ)
    → map integer_of (map view values) ≡ map Some zs → i < length values → integer_of (view (get_or values i v)) ≡ Some (get_or zs i z)
integer_at [] zs i v z e below = absurd (omega (arith, below))
integer_at (x ∷ xs) [] i v z e below = cc
integer_at (x ∷ xs) (y ∷ ys) zero v z e below = cc
integer_at (x ∷ xs) (y ∷ ys) (suc i) v z e below =
    let rest : map integer_of (map view xs) ≡ map Some ys = cc in
    integer_at xs ys i v z rest (omega (arith, below))

-- an array with an element that is no integer of a kind is no array of integers of that kind
pub says_no_integers : (P : ℤ → Type 0) (values : List Value) (d : Data) (i : ℕ) (v : Value)
    → d ≡ array (items_of (map view values)) → i < length values → v ≡ get_or values i v
    → ((z : ℤ) → P z → integer_of (view v) ≡ Some z → ⊥) → (zs : List ℤ) → All P zs → AreIntegers d zs → ⊥
says_no_integers P values d i v is below here none zs short said =
    let same : said.elements ≡ map view values = same_arrays _ _ (sym said.listed ∙ is) in
    let each : map integer_of (map view values) ≡ map Some zs = ap (map integer_of) (sym same) ∙ said.each in
    let long : length values ≡ length zs =
    sym (length-map values view) ∙ (sym (length-map (map view values) integer_of) ∙ (ap length each ∙ length-map zs Some)) in
    none (get_or zs i (pos 0)) (short i (pos 0) (omega (arith, below, long)))
    (ap (λ w. integer_of (view w)) here ∙ integer_at values zs i v (pos 0) each below)

pub one_more_integer : (values : List Value) (i : ℕ) (v : Value) (zs : List ℤ) (z : ℤ)
    → i < length values → v ≡ get_or values i v → map integer_of (map view (take i values)) ≡ map Some zs → integer_of (view v) ≡ Some z
    → map integer_of (map view (take (i + 1) values)) ≡ map Some (zs ++ z ∷ [])
one_more_integer values i v zs z below here before said =
    ap (map integer_of) (map_more view values i v below)
    ∙ map-append integer_of (map view (take i values)) (view (get_or values i v) ∷ [])
    ∙ ap (λ l. l ++ integer_of (view (get_or values i v)) ∷ []) before
    ∙ ap (λ o. map Some zs ++ o ∷ []) (ap (λ w. integer_of (view w)) (sym here) ∙ said)
    ∙ sym (map-append Some zs (z ∷ []))

same_field : (o : Option Data) (d e : Data) → Some e ≡ o → o ≡ Some d → d ≡ e
same_field o d e found named = cc

-- the list of integers in a field is that of the value found there
pub list_named : (name : List ℕ) (value found : Data) (zs : List ℤ) → Some found ≡ get name value → HasIntegers name value zs → AreIntegers found zs
list_named name value found zs is has =
    subst (λ (d : Data). AreIntegers d zs) (same_field (get name value) has.field found is has.named) has.said

-- and so the lists of prices
pub lists_named : (value found : Data) (prices : PricesModel) → Some found ≡ get (codes "prices") value → SaysPrices value prices → HasPriceLists found prices
lists_named value found prices is says =
    subst (λ (d : Data). HasPriceLists d prices) (same_field (get (codes "prices") value) says.field found is says.named) says.lists
