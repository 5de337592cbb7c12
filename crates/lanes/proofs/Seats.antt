-- What seats drew, seat by seat.
use Rattle.std.proofs.Common.{◌≡◌, ◌≢◌, ℕ, zero, suc, ◌+◌, ◌==◌, ◌<◌, ◌≤◌, Bool, true, min, count_by, All, cond, List, [], ◌∷◌, ◌++◌, length, inl, inr, refl, ap, arith}
use Rattle.std.proofs.lemmas.Bool.{cases_eq}
use Rattle.std.proofs.lemmas.List.Sums.{sum_by-cons, sum_by-append}
use Rattle.std.proofs.lemmas.List.Elements.{All-head}
use Rattle.ruled_lanes.specs.declared.tickets.Seat.{Seat}
use Rattle.ruled_lanes.specs.TicketProtocol.{times, HasOnceBelow}
use Rattle.ruled_lanes.specs.TicketSeats.{drawn, has_ended, all_drawn}

-- what the seat at a place drew
abbrev pub drawn_at : List Seat → ℕ → List ℕ
drawn_at [] lane = []
drawn_at (s ∷ seats) zero = drawn s
drawn_at (s ∷ seats) (suc lane) = drawn_at seats lane

pub drawn_past : (seats : List Seat) (lane : ℕ) → length seats ≤ lane → drawn_at seats lane ≡ []
drawn_past [] lane past = refl
drawn_past (s ∷ seats) zero past = absurd (omega (arith, past))
drawn_past (s ∷ seats) (suc lane) past = drawn_past seats lane (omega (arith, past))

times-append : (file : ℕ) (xs ys : List ℕ) → times file (xs ++ ys) ≡ times file xs + times file ys
times-append file xs ys = sum_by-append (λ z. cond (z == file) 1 0) xs ys

-- a file that none drew
none_drew : (file : ℕ) (seats : List Seat) → times file (all_drawn seats) ≡ 0 → (lane : ℕ) → times file (drawn_at seats lane) ≡ 0
none_drew file [] none lane = refl
none_drew file (s ∷ seats) none zero = omega (arith, none, times-append file (drawn s) (all_drawn seats))
none_drew file (s ∷ seats) none (suc lane) = none_drew file seats (omega (arith, none, times-append file (drawn s) (all_drawn seats))) lane

others_first : (file : ℕ) (s : Seat) (seats : List Seat) → times file (all_drawn seats) ≡ 0 → (lane : ℕ) → lane ≢ 0 → times file (drawn_at (s ∷ seats) lane) ≡ 0
others_first file s seats none zero apart = absurd (apart refl)
others_first file s seats none (suc lane) apart = none_drew file seats none lane

others_later : (file : ℕ) (s : Seat) (seats : List Seat) (one : ℕ) → times file (drawn s) ≡ 0 → ((lane : ℕ) → lane ≢ one → times file (drawn_at seats lane) ≡ 0)
    → (lane : ℕ) → lane ≢ suc one → times file (drawn_at (s ∷ seats) lane) ≡ 0
others_later file s seats one none others zero apart = none
others_later file s seats one none others (suc lane) apart = others lane (λ e. apart (ap suc e))

-- a file that was drawn once was drawn by one seat
pub one_drew : (file : ℕ) (seats : List Seat) → times file (all_drawn seats) ≡ 1
    → (one : ℕ) × (times file (drawn_at seats one) ≡ 1) × ((lane : ℕ) → lane ≢ one → times file (drawn_at seats lane) ≡ 0)
one_drew file [] once = absurd (omega (arith, once))
one_drew file (s ∷ seats) once =
    let both = times-append file (drawn s) (all_drawn seats) in
    elim (cases_eq (times file (drawn s)) 0) [
      | inl none ↦ (let rest = one_drew file seats (omega (arith, once, none, both)) in (suc rest.0, rest.1, others_later file s seats rest.0 none rest.2))
      | inr some ↦ (0, omega (arith, once, some, both), others_first file s seats (omega (arith, once, some, both)))
    ]

-- a seat that has ended counts
some_ended : (P : Seat → Type 0) (seats : List Seat) → ((s : Seat) → P s → has_ended s ≡ true) → All P seats → 1 ≤ length seats → 0 < count_by has_ended seats
some_ended P [] ends all some = absurd (omega (arith, some))
some_ended P (s ∷ seats) ends all some =
    let count : Bool → ℕ = λ b. cond b 1 0 in
    let one : count (has_ended s) ≡ count true = ap count (ends s (All-head P s seats all)) in
    omega (arith, one, sum_by-cons (λ r. cond (has_ended r) 1 0) s seats)

-- where all seats have ended, each number below the limit was drawn once
pub drawn_once : (P : Seat → Type 0) (seats : List Seat) (word limit files : ℕ) → ((s : Seat) → P s → has_ended s ≡ true) → All P seats → 1 ≤ length seats → limit ≡ files
    → HasOnceBelow (min word limit) (all_drawn seats) → (0 < count_by has_ended seats → limit ≤ word) → (file : ℕ) → file < files → times file (all_drawn seats) ≡ 1
drawn_once P seats word limit files ends all some same once reached file below =
    let past : limit ≤ word = reached (some_ended P seats ends all some) in
    (once file).0 (omega (arith, past, below, same))
