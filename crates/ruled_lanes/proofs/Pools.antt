-- A pass that stands for more and more seats, from the last to the first.
use Rattle.std.proofs.Common.{◌≡◌, ◌+◌, ◌<◌, ◌≤◌, min, subst, ℕ, Bool, List, [], ◌∷◌, ◌++◌, length, cond, count_by, refl, All, ap, ◌∙◌, append_assoc, arith}
use Rattle.std.proofs.lemmas.List.Elements.{All-head, All-tail}
use Rattle.std.proofs.lemmas.List.Sums.{sum_by-cons}
use Rattle.ruled_lanes.specs.declared.tickets.Seat.{Seat}
use Rattle.ruled_lanes.specs.declared.tickets.Draws.{Draws}
use mathlib.Core.Option.{some}
use lib.ListN.{get_elem?}
use Rattle.ruled_lanes.specs.TicketProtocol.{draws, HasOnceBelow, IsDealt}
use Rattle.ruled_lanes.specs.TicketSeats.{drawn, has_ended, all_drawn, word_value, AreKnownBy, IsUnused, IsPool}
use Rattle.ruled_lanes.proofs.Deals.{closes}

-- of all seats the view stands for the last ones, and not for the first, the rest
abbrev pub HasPooled : List Seat → List Seat → Draws → Type 0
HasPooled all rest v = (done : List Seat) × (all ≡ rest ++ done) × IsPool done v

pub one_pooled : (all before rest : List Seat) (s : Seat) (v w : Draws) → before ≡ rest ++ s ∷ []
    → w ≡ draws v.limit (v.shares + s.pass.me.0.shares) (v.ends + s.pass.me.0.ends) (s.pass.me.0.drawn ++ v.drawn) → HasPooled all before v → HasPooled all rest w
one_pooled all before rest s v w popped made h =
    let shares = ap (λ (u : Draws). u.shares) made in
    let ends = ap (λ (u : Draws). u.ends) made in
    let more = sum_by-cons (λ (r : Seat). cond (has_ended r) 1 0) s h.0 in
    let pool = h.2 in (
      s ∷ h.0,
      h.1 ∙ ap (λ l. l ++ h.0) popped ∙ append_assoc rest (s ∷ []) h.0,
      (
        omega (arith, s.one_share),
        omega (arith, s.ends),
        ap (λ (u : Draws). u.drawn) made ∙ ap (λ l. drawn s ++ l) pool.2,
      ),
    )

-- what the view of all seats tells of a word
abbrev pub Tells : ℕ → ℕ → ℕ → List Seat → Type 0
Tells limit lanes word seats =
    HasOnceBelow (min word limit) (all_drawn seats) × (word ≡ length (all_drawn seats) + count_by has_ended seats) × (0 < count_by has_ended seats → limit ≤ word)
    × (word ≤ limit + lanes)

pub tells : (key : ℕ × ℕ) (words : List ℕ) (views : List Draws) (id : ℕ) (v : Draws) (seats : List Seat) (limit word : ℕ)
    → IsDealt key words views → get_elem? views id ≡ some v → IsPool seats v → length seats ≡ key.1 → key.0 ≡ limit → get_elem? words 0 ≡ some word → Tells limit key.1 word seats
tells key words views id v seats limit word h at pool many is here =
    let facts = closes key words views id v h at (pool.0 ∙ many) word here in
    let once : HasOnceBelow (min word key.0) (all_drawn seats) = subst (HasOnceBelow (min word key.0)) pool.2 facts.0 in
    let drawn_is : length v.drawn ≡ length (all_drawn seats) = ap length pool.2 in
    let ends_is = pool.1 in
    let total = facts.1 in
    let past = facts.2 in
    let bounded = facts.3 in
    (subst (λ n. HasOnceBelow (min word n) (all_drawn seats)) is once, omega arith, (λ some_ended. let reached : key.0 ≤ word = past (omega arith) in omega arith), omega arith)

-- the word of seats that have drawn nothing and have not ended
pub word_at_first : (seats : List Seat) → All IsUnused seats → word_value seats ≡ 0
word_at_first [] unused = refl
word_at_first (s ∷ seats) unused =
    let first = All-head IsUnused s seats unused in
    let rest = word_at_first seats (All-tail IsUnused s seats unused) in
    let drawn_none : length (all_drawn (s ∷ seats)) ≡ length (all_drawn seats) = ap (λ l. length (l ++ all_drawn seats)) first.0 in
    let ended : Bool → ℕ = λ b. cond b 1 0 in
    let ended_none : ended (has_ended s) ≡ 0 = ap ended first.1 in
    let more = sum_by-cons (λ (r : Seat). cond (has_ended r) 1 0) s seats in
    omega (arith, drawn_none, ended_none, more, rest)

-- what the rule lets the word be, where the passes know what these seats know
pub word_by_rule : (key : ℕ × ℕ) (words : List ℕ) (views : List Draws) (seats : List Seat) → IsDealt key words views → AreKnownBy seats views → All IsUnused seats → words ≡ 0 ∷ []
word_by_rule key words views seats dealt known unused =
    let none : word_value seats ≡ 0 = word_at_first seats unused in
    let zero_word : dealt.word ≡ 0 = omega (arith, none, dealt.count, dealt.ended, known.drawn, known.ended) in
    dealt.only ∙ ap (λ n. n ∷ []) zero_word
