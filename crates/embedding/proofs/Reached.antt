-- The walk that flags what is reached from vertex 1.
use Rattle.std.proofs.Common.{◌≡◌, ◌⊎◌, ℕ, zero, suc, ◌+◌, ◌<◌, ◌≤◌, Bool, true, false, cond, List, length, get_or, set, replicate, refl, sym, ap, ◌∙◌, subst, inl, inr, arith}
use Rattle.std.specs.List.{All, Contains}
use Rattle.std.proofs.lemmas.List.{get_or-set_same, get_or-set_other, get_or_default, length-set}
use Rattle.std.proofs.lemmas.Bool.{cases_eq, true≢false}
use Rattle.common.proofs.Sums.{sum_below-none, sum_below-le, sum_below-lt, sum_below-changed, sum_below-constant}
use Rattle.embedding.specs.declared.neighbour_lists.TheConstants.{VERTEX_NUMBERS}
use Rattle.embedding.specs.Lists.{list_of}
use Rattle.embedding.specs.declared.breaks.Rule.TheVariants.{Disconnected}
use Rattle.embedding.specs.Rules.{Breaks, IsClosed}
use Rattle.embedding.specs.Reached.{Holds, IsQueue, IsReached}

-- 1 for a flagged number, else 0
abbrev flag_of : List Bool → ℕ → ℕ
flag_of reached v = cond (get_or reached v false) 1 0

flag_small : (b : Bool) → cond b 1 0 ≤ 1
flag_small true = omega arith
flag_small false = omega arith

-- no flags at first
pub queue_none : (reached : List Bool) (queue : List ℕ) → length reached ≡ VERTEX_NUMBERS → length queue ≡ VERTEX_NUMBERS → ((v : ℕ) → get_or reached v false ≡ false) → IsQueue reached queue 0
queue_none reached queue flags places blank =
    record {
      flags = flags;
      places = places;
      count = sum_below-none (length reached) (flag_of reached) (λ v _. ap (λ (b : Bool). cond b 1 0) (blank v));
      queued = λ i below. absurd (omega arith);
      placed = λ v holds. absurd (true≢false (sym holds ∙ blank v));
    }

pub blank_flags : (n v : ℕ) → get_or (replicate n false) v false ≡ false
blank_flags zero v = refl
blank_flags (suc n) zero = refl
blank_flags (suc n) (suc v) = blank_flags n v

-- where a number is not flagged, there is room
pub queue_room : (reached : List Bool) (queue : List ℕ) (found v : ℕ) → v < VERTEX_NUMBERS → get_or reached v false ≡ false → IsQueue reached queue found → found < VERTEX_NUMBERS
queue_room reached queue found v small new q =
    let inside : v < length reached = omega (arith, q.flags) in
    let less : flag_of reached v < 1 = rw new (omega arith) in
    omega (arith, q.count, q.flags, sum_below-constant (length reached) 1, sum_below-lt (length reached) v (flag_of reached) (λ _. 1) inside (λ i _. flag_small (get_or reached i false)) less)

-- one more flag
pub queue_more : (reached : List Bool) (queue : List ℕ) (found v : ℕ) → v < VERTEX_NUMBERS → get_or reached v false ≡ false → IsQueue reached queue found → IsQueue (set reached v true) (set queue found v) (found + 1)
queue_more reached queue found v small new q =
    let room = queue_room reached queue found v small new q in
    let inside : v < length reached = omega (arith, q.flags) in
    let place : found < length queue = omega (arith, q.places) in
    let here : get_or (set reached v true) v false ≡ true = get_or-set_same reached v true false inside in
    let last : get_or (set queue found v) found 0 ≡ v = get_or-set_same queue found v 0 place in
    record {
      flags = length-set reached v true ∙ q.flags;
      places = length-set queue found v ∙ q.places;
      count =
          let long = length-set reached v true in
          let changed = sum_below-changed (length reached) v (flag_of reached) (flag_of (set reached v true)) inside (λ i _ other. ap (λ (b : Bool). cond b 1 0) (sym (get_or-set_other reached v i true false other))) in
          let one : flag_of (set reached v true) v ≡ 1 = ap (λ (b : Bool). cond b 1 0) here in
          let none : flag_of reached v ≡ 0 = ap (λ (b : Bool). cond b 1 0) new in
          rw long (omega (arith, changed, q.count, one, none));
      queued = λ i below. elim (cases_eq i found) [
        | inl e ↦ rw (e, last) here
        | inr other ↦
            rw (get_or-set_other queue found i v 0 other) (still (get_or queue i 0) (q.queued i (omega arith)))
      ];
      placed = λ w holds. elim (cases_eq w v) [
        | inl e ↦ (found, omega arith, last ∙ sym e)
        | inr other ↦
            let (i, below, at) = q.placed w (sym (get_or-set_other reached v w true false other) ∙ holds) in
            (i, omega arith, get_or-set_other queue found i v 0 (λ e. apart i below e) ∙ at)
      ];
    }
  where
    apart : (i : ℕ) → i < found → i ≡ found → ⊥
    apart i below e = omega arith

    still : (w : ℕ) → Holds reached w → Holds (set reached v true) w
    still w holds =
        elim (cases_eq w v) [
          | inl e ↦ absurd (true≢false (sym holds ∙ ap (λ (k : ℕ). get_or reached k false) e ∙ new))
          | inr other ↦ get_or-set_other reached v w true false other ∙ holds
        ]

-- what a new flag changes
pub flags_others : (reached : List Bool) (v w : ℕ) → Holds (set reached v true) w → Holds reached w ⊎ (w ≡ v)
flags_others reached v w holds =
    elim (cases_eq w v) [
      | inl e ↦ inr e
      | inr other ↦ inl (sym (get_or-set_other reached v w true false other) ∙ holds)
    ]

-- from the old flags, the first n entries of the list are flagged
pub record Reaches (old : List Bool) (line : List ℕ) (had : ℕ) (list : List ℕ) (n : ℕ) (reached : List Bool) (queue : List ℕ) (found : ℕ) : Type 0 where
  pub queue_is : IsQueue reached queue found
  pub listed : (i : ℕ) → i < n → Holds reached (get_or list i 0)
  pub others : (v : ℕ) → Holds reached v → Holds old v ⊎ ((i : ℕ) × (i < n) × (get_or list i 0 ≡ v))
  pub kept : (v : ℕ) → Holds old v → Holds reached v
  pub order : (i : ℕ) → i < had → get_or queue i 0 ≡ get_or line i 0
  pub longer : had ≤ found

-- what one call flags
pub record Flags (old : List Bool) (line : List ℕ) (had v : ℕ) (reached : List Bool) (queue : List ℕ) (found : ℕ) : Type 0 where
  pub queue_is : IsQueue reached queue found
  pub here : Holds reached v
  pub others : (w : ℕ) → Holds reached w → Holds old w ⊎ (w ≡ v)
  pub kept : (w : ℕ) → Holds old w → Holds reached w
  pub order : (i : ℕ) → i < had → get_or queue i 0 ≡ get_or line i 0
  pub longer : had ≤ found

pub reaches_more : {old : List Bool} {line : List ℕ} {had : ℕ} {list : List ℕ} {n : ℕ} {reached : List Bool} {queue : List ℕ} {found : ℕ} (v : ℕ) (reached' : List Bool) (queue' : List ℕ) (found' : ℕ) → v ≡ get_or list n 0 → Reaches old line had list n reached queue found → Flags reached queue found v reached' queue' found' → Reaches old line had list (n + 1) reached' queue' found'
reaches_more {old} {line} {had} {list} {n} {reached} {queue} {found} v reached' queue' found' at r m =
    record {
      queue_is = m.queue_is;
      listed = λ i below. elim (cases_eq i n) [
        | inl e ↦
            subst (λ (w : ℕ). Holds reached' w) (at ∙ sym (ap (λ (k : ℕ). get_or list k 0) e)) m.here
        | inr other ↦ m.kept (get_or list i 0) (r.listed i (omega arith))
      ];
      others = λ w h. from w (m.others w h);
      kept = λ w h. m.kept w (r.kept w h);
      order = λ i below. m.order i (omega (arith, r.longer)) ∙ r.order i below;
      longer = omega (arith, r.longer, m.longer);
    }
  where
    again : (w : ℕ) → Holds old w ⊎ ((i : ℕ) × (i < n) × (get_or list i 0 ≡ w)) → Holds old w ⊎ ((i : ℕ) × (i < n + 1) × (get_or list i 0 ≡ w))
    again w (inl h) = inl h
    again w (inr (i, below, e)) = inr (i, omega arith, e)

    from : (w : ℕ) → Holds reached w ⊎ (w ≡ v) → Holds old w ⊎ ((i : ℕ) × (i < n + 1) × (get_or list i 0 ≡ w))
    from w (inl h) = again w (r.others w h)
    from w (inr e) = inr (n, omega arith, sym at ∙ sym e)

pub reaches_listed : {old : List Bool} {line : List ℕ} {had : ℕ} (list : List ℕ) (n : ℕ) {reached : List Bool} {queue : List ℕ} {found : ℕ} → n ≡ length list → Reaches old line had list n reached queue found → All (Holds reached) list
reaches_listed list n {reached = reached} all r k d below =
    subst (λ (w : ℕ). Holds reached w) (get_or_default list k 0 d below) (r.listed k (omega arith))

pub reaches_others : {old : List Bool} {line : List ℕ} {had : ℕ} (list : List ℕ) (n : ℕ) {reached : List Bool} {queue : List ℕ} {found : ℕ} → n ≡ length list → Reaches old line had list n reached queue found → (v : ℕ) → Holds reached v → Holds old v ⊎ Contains list v
reaches_others {old = old} list n all r v h =
    elim (r.others v h) [
      | inl before ↦ inl before
      | inr w ↦
          let inside : w.0 < length list = omega (arith, w.1) in
          inr (w.0, inside, get_or_default list w.0 v 0 inside ∙ w.2)
    ]

-- the lists of the first `done` vertices of the queue are flagged, and nothing that need not be
pub record IsWalking (g : List (List ℕ)) (reached : List Bool) (queue : List ℕ) (found done : ℕ) : Type 0 where
  pub queue_is : IsQueue reached queue found
  pub first : Holds reached 1
  pub least : (s : ℕ → Bool) → s 1 ≡ true → IsClosed g s → (v : ℕ) → Holds reached v → s v ≡ true
  pub closed : (i : ℕ) → i < done → All (Holds reached) (list_of g (get_or queue i 0))
  pub behind : done ≤ found

pub walking_starts : (g : List (List ℕ)) (old : List Bool) (line : List ℕ) (reached : List Bool) (queue : List ℕ) (found : ℕ) → ((v : ℕ) → get_or old v false ≡ false) → Flags old line 0 1 reached queue found → IsWalking g reached queue found 0
walking_starts g old line reached queue found blank m =
    record {
      queue_is = m.queue_is;
      first = m.here;
      least = λ s holds closed v h. only s holds v (m.others v h);
      closed = λ i below. absurd (omega arith);
      behind = omega arith;
    }
  where
    only : (s : ℕ → Bool) → s 1 ≡ true → (v : ℕ) → Holds old v ⊎ (v ≡ 1) → s v ≡ true
    only s holds v (inl h) = absurd (true≢false (sym h ∙ blank v))
    only s holds v (inr e) = ap s e ∙ holds

-- what one vertex's list flags
pub record FlagsAll (old : List Bool) (line : List ℕ) (had : ℕ) (list : List ℕ) (reached : List Bool) (queue : List ℕ) (found : ℕ) : Type 0 where
  pub queue_is : IsQueue reached queue found
  pub listed : All (Holds reached) list
  pub others : (v : ℕ) → Holds reached v → Holds old v ⊎ Contains list v
  pub kept : (v : ℕ) → Holds old v → Holds reached v
  pub order : (i : ℕ) → i < had → get_or queue i 0 ≡ get_or line i 0
  pub longer : had ≤ found

pub walking_more : {g : List (List ℕ)} {reached : List Bool} {queue : List ℕ} {found done : ℕ} (list : List ℕ) (reached' : List Bool) (queue' : List ℕ) (found' : ℕ) → done < found → list ≡ list_of g (get_or queue done 0) → IsWalking g reached queue found done → FlagsAll reached queue found list reached' queue' found' → IsWalking g reached' queue' found' (done + 1)
walking_more {g} {reached} {queue} {found} {done} list reached' queue' found' below same w m =
    record {
      queue_is = m.queue_is;
      first = m.kept 1 w.first;
      least = λ s holds closed v h. elim (m.others v h) [
        | inl old ↦ w.least s holds closed v old
        | inr listed ↦
            let from : s (get_or queue done 0) ≡ true = w.least s holds closed _ (w.queue_is.queued done below) in
            let all : All (λ v. s v ≡ true) list =
            subst (λ (l : List ℕ). All (λ v. s v ≡ true) l) (sym same) (closed _ from) in
            subst (λ (x : ℕ). s x ≡ true) listed.2 (all listed.0 v listed.1)
      ];
      closed = λ i before. elim (cases_eq i done) [
        | inl e ↦
            subst (λ (l : List ℕ). All (Holds reached') l) (same ∙ ap (list_of g) (sym (m.order done below)) ∙ ap (λ (k : ℕ). list_of g (get_or queue' k 0)) (sym e)) m.listed
        | inr other ↦
            let i-done : i < done = omega arith in
            subst (λ (u : ℕ). All (Holds reached') (list_of g u)) (sym (m.order i (omega arith))) (λ k d inside. m.kept _ (w.closed i i-done k d inside))
      ];
      behind = omega (arith, m.longer);
    }

pub walking_ends : {g : List (List ℕ)} {reached : List Bool} {queue : List ℕ} {found done : ℕ} → found ≤ done → IsWalking g reached queue found done → IsReached g reached
walking_ends {g} {reached} {queue} {found} {done} past w =
    record {
      flags = w.queue_is.flags;
      first = w.first;
      closed = λ u h.
          let (i, below, at) = w.queue_is.placed u h in
          subst (λ (x : ℕ). All (Holds reached) (list_of g x)) at (w.closed i (omega arith));
      least = w.least;
    }

-- a vertex that is not reached breaks the rule
pub unreached_breaks : (g : List (List ℕ)) (reached : List Bool) (u : ℕ) → IsReached g reached → 1 ≤ u → u ≤ length g → get_or reached u false ≡ false → Breaks g Disconnected
unreached_breaks g reached u r from to missing =
    ((λ v. get_or reached v false), r.first, r.closed, (u, from, to, missing))

pub reached_keeps : (g : List (List ℕ)) (reached : List Bool) → IsReached g reached → ((v : ℕ) → 1 ≤ v → v ≤ length g → get_or reached v false ≡ true) → Breaks g Disconnected → ⊥
reached_keeps g reached r all (s, holds, closed, (u, from, to, missing)) =
    true≢false (sym (r.least s holds closed u (all u from to)) ∙ missing)

-- the queue is never longer than its places
pub queue_short : (reached : List Bool) (queue : List ℕ) (found : ℕ) → IsQueue reached queue found → found ≤ VERTEX_NUMBERS
queue_short reached queue found q =
    omega (arith, q.count, q.flags, sum_below-constant (length reached) 1, sum_below-le (length reached) (flag_of reached) (λ _. 1) (λ i _. flag_small (get_or reached i false)))
