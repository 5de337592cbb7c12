-- Lists of values beside lists of what they say.
use Rattle.std.proofs.Common.{◌≡◌, ℕ, zero, suc, ◌+◌, ◌<◌, List, [], ◌∷◌, ◌++◌, length, map, take, get_or, All, Some, Result, Ok, Err, IfErr, refl, subst, sym, ap, ◌∙◌, arith}
use Rattle.std.proofs.lemmas.List.{length-map, map-append, map_more}
use Rattle.serde_json.specs.Data.{Data, string, array}
use Rattle.serde_json.specs.View.{view, items_of}
use Rattle.serde_json.specs.declared.value.Value.{Value}
use Rattle.ortho_rep.specs.declared.turn_strings.Turn.{Turn}
use Rattle.ortho_rep.specs.declared.turn_strings.Turn.TheVariants.{Left}
use Rattle.ortho_rep.specs.declared.grid_points.Point.{Point}
use Rattle.checking.specs.Values.{natural, array_of, point_data, letter_of}

same_items : (ds es : List Data) → items_of ds ≡ items_of es → ds ≡ es
same_items [] [] e = refl
same_items [] (x ∷ es) e = cc
same_items (d ∷ ds) [] e = cc
same_items (d ∷ ds) (x ∷ es) e =
    let first : d ≡ x = cc in
    let rest : items_of ds ≡ items_of es = cc in
    let more : ds ≡ es = same_items ds es rest in
    cc

pub same_arrays : (ds es : List Data) → array (items_of ds) ≡ array (items_of es) → ds ≡ es
same_arrays ds es e =
    let inner : items_of ds ≡ items_of es = cc in
    same_items ds es inner

-- two values are wanted for a point
pub is_no_pair : (values : List Value) (d : Data) → d ≡ array (items_of (map view values)) → (length values ≡ 2 → ⊥) → (point : Point) → d ≡ point_data point → ⊥
is_no_pair values d is other point said =
    let same : map view values ≡ natural point.x ∷ natural point.y ∷ [] = same_arrays _ _ (sym is ∙ said) in
    let two : length (map view values) ≡ 2 = ap length same in
    other (sym (length-map values view) ∙ two)

pub element_is : {A : Type 0} (f : A → Data) (values : List Value) (bs : List A) (i : ℕ) (v : Value) (a : A)
    → map view values ≡ map f bs → i < length values → view (get_or values i v) ≡ f (get_or bs i a)
element_is f [] bs i v a e below = absurd (omega arith)
element_is f (x ∷ xs) [] i v a e below = cc
element_is f (x ∷ xs) (b ∷ bs) zero v a e below = cc
element_is f (x ∷ xs) (b ∷ bs) (suc i) v a e below =
    let rest : map view xs ≡ map f bs = cc in
    element_is f xs bs i v a rest (omega arith)

-- an array with an element that says nothing of a kind says no list of that kind
pub says_none : {A : Type 0} (f : A → Data) (P : A → Type 0) (values : List Value) (d : Data) (i : ℕ) (v : Value) (a : A)
    → d ≡ array (items_of (map view values)) → i < length values → v ≡ get_or values i v
    → ((b : A) → P b → view v ≡ f b → ⊥) → (bs : List A) → All P bs → d ≡ array_of f bs → ⊥
says_none f P values d i v a is below here none bs short said =
    let same : map view values ≡ map f bs = same_arrays _ _ (sym is ∙ said) in
    let long : length values ≡ length bs = sym (length-map values view) ∙ (ap length same ∙ length-map bs f) in
    none (get_or bs i a) (short i a (omega (arith, below, long))) (ap view here ∙ element_is f values bs i v a same below)

pub one_more : {A : Type 0} (f : A → Data) (values : List Value) (i : ℕ) (v : Value) (bs : List A) (a : A)
    → i < length values → v ≡ get_or values i v → map view (take i values) ≡ map f bs → view v ≡ f a
    → map view (take (i + 1) values) ≡ map f (bs ++ a ∷ [])
one_more f values i v bs a below here before said =
    let step : map view (take (i + 1) values) ≡ map view (take i values) ++ view (get_or values i v) ∷ [] = map_more view values i v below in
    let split : map f (bs ++ a ∷ []) ≡ map f bs ++ f a ∷ [] = map-append f bs (a ∷ []) in
    let there : view (get_or values i v) ≡ f a = ap view (sym here) ∙ said in
    cc

pub weaker : {T E : Type 0} {P Q : E → Type 0} (r : Result T E) → ((e : E) → P e → Q e) → IfErr r P → IfErr r Q
weaker (Ok v) f h = tt
weaker (Err e) f h = f e h

letter_is : (letters : List ℕ) (turns : List Turn) (i : ℕ) (n : ℕ) (t : Turn) → letters ≡ map letter_of turns → i < length letters → get_or letters i n ≡ letter_of (get_or turns i t)
letter_is [] turns i n t e below = absurd (omega arith)
letter_is (x ∷ xs) [] i n t e below = absurd (omega (arith, ap length e))
letter_is (x ∷ xs) (b ∷ bs) zero n t e below = cc
letter_is (x ∷ xs) (b ∷ bs) (suc i) n t e below =
    let rest : xs ≡ map letter_of bs = cc in
    letter_is xs bs i n t rest (omega arith)

-- letters of which one is that of no turn are those of no turns
pub no_turns : (letters : List ℕ) (i : ℕ) → i < length letters → ((turn : Turn) → get_or letters i 0 ≡ letter_of turn → ⊥) → (turns : List Turn) → letters ≡ map letter_of turns → ⊥
no_turns letters i below none turns said = none (get_or turns i Left) (letter_is letters turns i 0 Left said below)

pub same_texts : (d : Data) (xs ys : List ℕ) → d ≡ string xs → d ≡ string ys → xs ≡ ys
same_texts d xs ys a b = cc
