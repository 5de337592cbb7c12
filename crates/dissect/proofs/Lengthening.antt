-- The path of an edge in a map with more darts: dart for dart, each old dart stays or gets a new one in front of it.
use Rattle.std.proofs.Common.{◌≡◌, ◌≢◌, ℕ, ◌+◌, ◌-◌, ◌%◌, ◌<◌, ◌≤◌, ◌==◌, if◌then◌else◌, ◌∙◌, List, [], ◌∷◌, ◌++◌, subst, sym, ap, refl, inl, inr, eqb}
use Rattle.std.proofs.lemmas.Bool.{cases_eq, eq-eqb, ne_eqb, cond-true, cond-false}
use Rattle.dissect.specs.DartMaps.{DartMap}
use Rattle.dissect.specs.Faces.{last_of, Below, In}
use Rattle.dissect.specs.Paths.{Follows, IsPath, HasPath, turn_to, path_quarters}

-- a turn in front of others, where it is one
abbrev pub turn_then : ℕ → List ℕ → List ℕ
turn_then k ts = if k == 0 then ts else k ∷ ts

pub turn_then-none : (k : ℕ) (ts : List ℕ) → k ≡ 0 → turn_then k ts ≡ ts
turn_then-none k ts e = cond-true {A = List ℕ} (eqb k 0) ts (k ∷ ts) (eq-eqb k 0 e)

pub turn_then-some : (k : ℕ) (ts : List ℕ) → k ≢ 0 → turn_then k ts ≡ k ∷ ts
turn_then-some k ts e = cond-false {A = List ℕ} (eqb k 0) ts (k ∷ ts) (ne_eqb k 0 e)

pub turn_then-append : (k : ℕ) (ts us : List ℕ) → turn_then k (ts ++ us) ≡ turn_then k ts ++ us
turn_then-append k ts us =
    elim (cases_eq k 0) [
      | inl e ↦ turn_then-none k (ts ++ us) e ∙ ap (λ (zs : List ℕ). zs ++ us) (sym (turn_then-none k ts e))
      | inr e ↦ turn_then-some k (ts ++ us) e ∙ ap (λ (zs : List ℕ). zs ++ us) (sym (turn_then-some k ts e))
    ]

-- the old darts arrive as they did
pub record KeepsHeads (w new : DartMap) : Type 0 where
  pub more : w.darts ≤ new.darts
  pub head : (a : ℕ) → a < w.darts → new.head a ≡ w.head a
  pub direction : (a : ℕ) → a < w.darts → new.direction a ≡ w.direction a

-- the old dart b has the same dart before it, and sets out as it did
pub record IsKept (w new : DartMap) (b : ℕ) : Type 0 where
  pub inside : b < new.darts
  pub before : new.before b ≡ w.before b
  pub reverse_dart : new.reverse_dart b ≡ w.reverse_dart b
  pub head : new.head (new.reverse_dart b) ≡ w.head (w.reverse_dart b)
  pub direction : new.direction (new.reverse_dart b) ≡ w.direction (w.reverse_dart b)

-- the new dart `front` stands before the old dart b, and sets out as b did; between them the edge has a turn
pub record IsDoubled (w new : DartMap) (b front turn : ℕ) : Type 0 where
  pub inside : b < new.darts
  pub front_in : front < new.darts
  pub before : new.before front ≡ w.before b
  pub behind : new.before b ≡ front
  pub reverse_dart : new.reverse_dart front ≡ w.reverse_dart b
  pub head : new.head (new.reverse_dart front) ≡ w.head (w.reverse_dart b)
  pub direction : new.direction (new.reverse_dart front) ≡ w.direction (w.reverse_dart b)
  pub meets : new.head (new.reverse_dart b) ≡ new.head front
  pub turns : turn_to new front b ≡ turn

-- what follows the dart a in the new map in place of the list, with these turns
pub record IsLonger (w new : DartMap) (a : ℕ) (rest turns : List ℕ) : Type 0 where
  pub list : List ℕ
  pub inside : Below new.darts list
  pub follows : Follows new a list
  pub last : last_of a list ≡ last_of a rest
  pub turning : path_quarters new a list ≡ turns
  pub holds : (b : ℕ) → In b rest → In b list

-- what the longer list holds, after the same dart
pub holds_behind : (c b : ℕ) (bs list : List ℕ) → ((x : ℕ) → In x bs → In x list) → In c (b ∷ bs) → In c (b ∷ list)
holds_behind c b bs list holds (inl at) = inl at
holds_behind c b bs list holds (inr there) = inr (holds c there)

pub longer_end : (w new : DartMap) (a : ℕ) → IsLonger w new a [] []
longer_end w new a = record { list = []; inside = tt; follows = tt; last = refl; turning = refl; holds = λ _ none. none }

pub longer_kept : (w new : DartMap) (a b : ℕ) (bs turns : List ℕ) → KeepsHeads w new → a < w.darts → Follows w a (b ∷ bs) →
    IsKept w new b → IsLonger w new b bs turns → IsLonger w new a (b ∷ bs) (turn_then (turn_to w a b) turns)
longer_kept w new a b bs turns keeps a_in follows kept longer =
    let same_turn : turn_to new a b ≡ turn_to w a b = same (keeps.direction a a_in) kept.direction in
    record {
      list = b ∷ longer.list;
      inside = (kept.inside, longer.inside);
      follows = (kept.before ∙ follows.0, kept.head ∙ follows.1 ∙ sym (keeps.head a a_in), longer.follows);
      last = longer.last;
      turning = ap (λ (k : ℕ). turn_then k (path_quarters new b longer.list)) same_turn
          ∙ ap (λ (ts : List ℕ). turn_then (turn_to w a b) ts) longer.turning;
      holds = λ c here. holds_behind c b bs longer.list longer.holds here;
    }
  where
    same : {d1 d2 e1 e2 : ℕ} → d1 ≡ d2 → e1 ≡ e2 → (e1 + 6 - d1) % 4 ≡ (e2 + 6 - d2) % 4
    same p q = cc

pub longer_doubled : (w new : DartMap) (a b front turn : ℕ) (bs turns : List ℕ) → KeepsHeads w new → a < w.darts → Follows w a (b ∷ bs) →
    IsDoubled w new b front turn → IsLonger w new b bs turns →
    IsLonger w new a (b ∷ bs) (turn_then (turn_to w a b) (turn_then turn turns))
longer_doubled w new a b front turn bs turns keeps a_in follows doubled longer =
    let same_turn : turn_to new a front ≡ turn_to w a b = same (keeps.direction a a_in) doubled.direction in
    record {
      list = front ∷ b ∷ longer.list;
      inside = (doubled.front_in, (doubled.inside, longer.inside));
      follows = (
        doubled.before ∙ follows.0,
        doubled.head ∙ follows.1 ∙ sym (keeps.head a a_in),
        (doubled.behind, doubled.meets, longer.follows),
      );
      last = longer.last;
      turning = ap (λ (k : ℕ). turn_then k (turn_then (turn_to new front b) (path_quarters new b longer.list))) same_turn
          ∙ ap (λ (k : ℕ). turn_then (turn_to w a b) (turn_then k (path_quarters new b longer.list))) doubled.turns
          ∙ ap (λ (ts : List ℕ). turn_then (turn_to w a b) (turn_then turn ts)) longer.turning;
      holds = λ c here. inr (holds_behind c b bs longer.list longer.holds here);
    }
  where
    same : {d1 d2 e1 e2 : ℕ} → d1 ≡ d2 → e1 ≡ e2 → (e1 + 6 - d1) % 4 ≡ (e2 + 6 - d2) % 4
    same p q = cc

-- a whole path, by its first dart
abbrev pub path_kept : (w new : DartMap) (end reverse_dart first : ℕ) (rest turns : List ℕ) → IsPath w end first rest → w.reverse_dart first ≡ reverse_dart →
    IsKept w new first → IsLonger w new first rest turns → HasPath new end reverse_dart turns
path_kept w new end reverse_dart first rest turns path back kept longer = record {
  first = first;
  rest = longer.list;
  path = record {
    first_in = kept.inside;
    rest_in = longer.inside;
    start = kept.before ∙ path.start;
    follows = longer.follows;
    ends = longer.last ∙ path.ends;
  };
  back = kept.reverse_dart ∙ back;
  turns = longer.turning;
}

abbrev pub path_doubled : (w new : DartMap) (end reverse_dart first front turn : ℕ) (rest turns : List ℕ) → IsPath w end first rest →
    w.reverse_dart first ≡ reverse_dart → IsDoubled w new first front turn → IsLonger w new first rest turns →
    HasPath new end reverse_dart (turn_then turn turns)
path_doubled w new end reverse_dart first front turn rest turns path back doubled longer = record {
  first = front;
  rest = first ∷ longer.list;
  path = record {
    first_in = doubled.front_in;
    rest_in = (doubled.inside, longer.inside);
    start = doubled.before ∙ path.start;
    follows = (doubled.behind, doubled.meets, longer.follows);
    ends = longer.last ∙ path.ends;
  };
  back = doubled.reverse_dart ∙ back;
  turns = ap (λ (k : ℕ). turn_then k (path_quarters new first longer.list)) doubled.turns
      ∙ ap (λ (ts : List ℕ). turn_then turn ts) longer.turning;
}

-- the same turns under another name
pub longer_turns : (w new : DartMap) (a : ℕ) (rest turns turns' : List ℕ) → turns ≡ turns' → IsLonger w new a rest turns →
    IsLonger w new a rest turns'
longer_turns w new a rest turns turns' e longer = subst (λ (ts : List ℕ). IsLonger w new a rest ts) e longer

pub path_turns : (w : DartMap) (end reverse_dart : ℕ) (turns turns' : List ℕ) → turns ≡ turns' → HasPath w end reverse_dart turns → HasPath w end reverse_dart turns'
path_turns w end reverse_dart turns turns' e path = subst (λ (ts : List ℕ). HasPath w end reverse_dart ts) e path
