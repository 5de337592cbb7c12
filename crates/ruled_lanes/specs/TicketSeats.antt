-- The knowledge of tickets and their seats.
use Rattle.std.specs.Prelude.{◌≡◌, ◌+◌, ℕ, Bool, false, List, [], ◌∷◌, length, count_by, sum_by}
use Rattle.std.specs.List.{flat_map}
use Rattle.atomic_table.specs.Seated.{TableId}
use Rattle.ruled_lanes.specs.declared.tickets.Tickets.{Tickets}
use Rattle.ruled_lanes.specs.declared.tickets.Seat.{Seat}
use Rattle.ruled_lanes.specs.declared.tickets.Draws.{Draws}
use Rattle.ruled_lanes.specs.TicketProtocol.{IsDealt}

-- the limit: the numbers below it are dealt
abbrev pub limit_of : Tickets → ℕ
limit_of t = t.limit

-- the number of seats
abbrev pub lanes_of : Tickets → ℕ
lanes_of t = t.table.shared.key.1

-- the numbers that it drew, first to last
abbrev pub drawn : Seat → List ℕ
drawn s = s.pass.me.0.drawn

-- whether the seat got none once; it then takes no further step
abbrev pub has_ended : Seat → Bool
has_ended s = s.has_ended

-- the numbers that all these seats drew
abbrev pub all_drawn : List Seat → List ℕ
all_drawn seats = flat_map drawn seats

-- the word, as all seats know it: the number of numbers that they drew, plus the number of seats that have ended
abbrev pub word_value : List Seat → ℕ
word_value seats = length (all_drawn seats) + count_by has_ended seats

-- it has drawn nothing and has not ended
abbrev pub IsUnused : Seat → Type 0
IsUnused s = (drawn s ≡ []) × (has_ended s ≡ false)

-- it is a seat at this table, with this limit
abbrev pub SitsAt : TableId → ℕ → Seat → Type 0
SitsAt table limit s = (s.pass.table_id ≡ table) × (s.pass.me.0.limit ≡ limit)

-- it is a seat of these tickets
abbrev pub IsSeatOf : Tickets → Seat → Type 0
IsSeatOf t s = SitsAt t.table.shared.table_id t.limit s

-- what a pass knows that represents all these seats
abbrev pub IsPool : List Seat → Draws → Type 0
IsPool seats v = (v.shares ≡ length seats) × (v.ends ≡ count_by has_ended seats) × (v.drawn ≡ all_drawn seats)

-- all passes of a table together have drawn as many numbers as these seats, and as many of them have ended
pub record AreKnownBy (seats : List Seat) (views : List Draws) : Type 0 where
  pub drawn : sum_by (λ (v : Draws). length v.drawn) views ≡ length (all_drawn seats)
  pub ended : sum_by (λ (v : Draws). v.ends) views ≡ count_by has_ended seats

-- As long as all passes of these tickets together know what these seats know, the rule allows only this value of their
-- one shared word. No value has the word itself, since other threads may change it at any time.
abbrev pub MustBeWord : Tickets → List Seat → ℕ → Type 0
MustBeWord t seats word = (words : List ℕ) (views : List Draws) → IsDealt t.table.shared.key words views → AreKnownBy seats views → words ≡ word ∷ []
