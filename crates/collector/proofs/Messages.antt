-- What a thread gathers of a link is what was told there.
use Rattle.std.proofs.Common.{◌≡◌, ℕ, List, [], ◌∷◌, ◌++◌, Option, None, Some, IsSome, sym, refl, ap, ◌∙◌, subst, append_assoc, append-nil}
use native.Mathlib.Omega.{arith}
use Rattle.std.specs.Prelude.{unwrap_or}
use Rattle.streams.specs.declared.frames.Mark.{Mark}
use Rattle.collector.specs.declared.frames_run.ReadMessage.{ReadMessage}
use Rattle.collector.specs.declared.frames_run.ReadMessage.TheVariants.{Records, End, Stop}
use Rattle.collector.specs.ReadMessage.{GiveRecords, IsTold, GoOn, records_in, mark_after, Gathers, GathersAll}

-- one more message that gives records
on_records : (messages : List ReadMessage) (batch : _) → GoOn messages → GoOn (messages ++ Records batch ∷ [])
on_records [] batch on = tt
on_records (Records _ ∷ messages) batch on = on_records messages batch on
on_records (End _ ∷ messages) batch on = on_records messages batch on
on_records (Stop ∷ messages) batch on = on

in_records : (messages : List ReadMessage) (batch : _) → records_in (messages ++ Records batch ∷ []) ≡ records_in messages ++ batch.items
in_records [] batch = append-nil batch.items
in_records (Records first ∷ messages) batch = ap (λ rest. first.items ++ rest) (in_records messages batch) ∙ sym (append_assoc first.items (records_in messages) batch.items)
in_records (End _ ∷ messages) batch = in_records messages batch
in_records (Stop ∷ messages) batch = in_records messages batch

mark_records : (mark : Option Mark) (messages : List ReadMessage) (batch : _) → mark_after mark (messages ++ Records batch ∷ []) ≡ mark_after mark messages
mark_records mark [] batch = refl
mark_records mark (Records _ ∷ messages) batch = mark_records mark messages batch
mark_records mark (End later ∷ messages) batch = mark_records (Some later) messages batch
mark_records mark (Stop ∷ messages) batch = mark_records mark messages batch

gathers_records : (records : List (List ℕ)) (mark : Option Mark) (messages : List ReadMessage) (batch : _) → Gathers records mark messages → Gathers (records ++ batch.items) mark (messages ++ Records batch ∷ [])
gathers_records records mark messages batch was = record {
  going = on_records messages batch was.going;
  same = ap (λ all. all ++ batch.items) was.same ∙ sym (in_records messages batch);
  marked = was.marked ∙ sym (mark_records None messages batch);
}

-- one more message with a mark
on_end : (messages : List ReadMessage) (end : Mark) → GoOn messages → GoOn (messages ++ End end ∷ [])
on_end [] end on = tt
on_end (Records _ ∷ messages) end on = on_end messages end on
on_end (End _ ∷ messages) end on = on_end messages end on
on_end (Stop ∷ messages) end on = on

in_end : (messages : List ReadMessage) (end : Mark) → records_in (messages ++ End end ∷ []) ≡ records_in messages
in_end [] end = refl
in_end (Records first ∷ messages) end = ap (λ rest. first.items ++ rest) (in_end messages end)
in_end (End _ ∷ messages) end = in_end messages end
in_end (Stop ∷ messages) end = in_end messages end

mark_end : (mark : Option Mark) (messages : List ReadMessage) (end : Mark) → mark_after mark (messages ++ End end ∷ []) ≡ Some end
mark_end mark [] end = refl
mark_end mark (Records _ ∷ messages) end = mark_end mark messages end
mark_end mark (End later ∷ messages) end = mark_end (Some later) messages end
mark_end mark (Stop ∷ messages) end = mark_end mark messages end

gathers_end : (records : List (List ℕ)) (mark : Option Mark) (messages : List ReadMessage) (end : Mark) → Gathers records mark messages → Gathers records (Some end) (messages ++ End end ∷ [])
gathers_end records mark messages end was = record {
  going = on_end messages end was.going;
  same = was.same ∙ sym (in_end messages end);
  marked = sym (mark_end None messages end);
}

-- what was gathered, with a message more
pub took_records : (records all : List (List ℕ)) (mark : Option Mark) (before after : List ReadMessage) (message : ReadMessage) (batch : _) → Gathers records mark before
    → after ≡ before ++ message ∷ [] → message ≡ Records batch → all ≡ records ++ batch.items → Gathers all mark after
took_records records all mark before after message batch was more is appended =
    subst (λ l. Gathers l mark after) (sym appended) (subst (λ l. Gathers (records ++ batch.items) mark l) (sym (more ∙ ap (λ m. before ++ m ∷ []) is)) (gathers_records records mark before batch was))

pub took_end : (records : List (List ℕ)) (mark : Option Mark) (before after : List ReadMessage) (message : ReadMessage) (end : Mark) → Gathers records mark before
    → after ≡ before ++ message ∷ [] → message ≡ End end → Gathers records (Some end) after
took_end records mark before after message end was more is =
    subst (λ l. Gathers records (Some end) l) (sym (more ∙ ap (λ m. before ++ m ∷ []) is)) (gathers_end records mark before end was)

-- a message's kind as a number, its records and its mark
abbrev kind : ReadMessage → ℕ
kind (Records _) = 0
kind (End _) = 1
kind Stop = 2

abbrev batch_of : ReadMessage → List (List ℕ)
batch_of (Records batch) = batch.items
batch_of _ = []

abbrev mark_of : ReadMessage → Option Mark
mark_of (End mark) = Some mark
mark_of _ = None

-- the first of some messages, and the others
abbrev first_of : List ReadMessage → ReadMessage
first_of [] = Stop
first_of (message ∷ _) = message

abbrev others_of : List ReadMessage → List ReadMessage
others_of [] = []
others_of (_ ∷ messages) = messages

first_kind : (messages others : List ReadMessage) → messages ≡ others → kind (first_of messages) ≡ kind (first_of others)
first_kind messages others same = ap (λ l. kind (first_of l)) same

-- where a stop stands first, nothing stands before the first stop
none_first : (mine held : List ReadMessage) → GoOn mine → mine ++ Stop ∷ held ≡ Stop ∷ [] → mine ≡ []
none_first [] held on same = refl
none_first (Records b ∷ mine) held on same = absurd (omega (arith, first_kind _ _ same))
none_first (End e ∷ mine) held on same = absurd (omega (arith, first_kind _ _ same))
none_first (Stop ∷ mine) held on same = absurd on

-- what stands before the first stop has the same records and the same mark
stop_first : (records : List (List ℕ)) (mark : Mark) (was : Option Mark) (mine theirs held : List ReadMessage) → GoOn mine → GiveRecords records theirs
    → mine ++ Stop ∷ held ≡ theirs ++ End mark ∷ Stop ∷ [] → (records_in mine ≡ records) × (mark_after was mine ≡ Some mark)
stop_first records mark was (Stop ∷ mine) theirs held on give same = absurd on
stop_first records mark was mine (End _ ∷ theirs) held on give same = absurd give
stop_first records mark was mine (Stop ∷ theirs) held on give same = absurd give
stop_first records mark was [] [] held on give same = absurd (omega (arith, first_kind _ _ same))
stop_first records mark was [] (Records c ∷ theirs) held on give same = absurd (omega (arith, first_kind _ _ same))
stop_first records mark was (Records b ∷ mine) [] held on give same = absurd (omega (arith, first_kind _ _ same))
stop_first records mark was (End e ∷ mine) (Records c ∷ theirs) held on give same = absurd (omega (arith, first_kind _ _ same))
stop_first records mark was (End e ∷ mine) [] held on give same =
    let none = none_first mine held on (ap others_of same) in
    (ap records_in none ∙ sym give, ap (mark_after (Some e)) none ∙ ap (λ l. mark_of (first_of l)) same)
stop_first records mark was (Records b ∷ mine) (Records c ∷ theirs) held on (rest, spelt, give) same =
    let later = stop_first rest mark was mine theirs held on give (ap others_of same) in
    (ap (λ batch. batch ++ records_in mine) (ap (λ l. batch_of (first_of l)) same) ∙ ap (λ all. c.items ++ all) later.0 ∙ sym spelt, later.1)

-- what was gathered of a link is what was told there
pub all_told : (mine records : List (List ℕ)) (found : Option Mark) (mark : Mark) (taken held given : List ReadMessage)
    → GathersAll mine found taken → taken ++ held ≡ given → IsTold records mark given → (mine ≡ records) × (found ≡ Some mark)
all_told mine records found mark taken held given (front, whole, gathers) settled (theirs, spelt, give) =
    let same : front ++ Stop ∷ held ≡ theirs ++ End mark ∷ Stop ∷ [] = sym (append_assoc front (Stop ∷ []) held) ∙ ap (λ l. l ++ held) (sym whole) ∙ settled ∙ spelt in
    let both = stop_first records mark None front theirs held gathers.going give same in
    (gathers.same ∙ both.0, gathers.marked ∙ both.1)

pub found_some : (found : Option Mark) (mark : Mark) → found ≡ Some mark → IsSome found
found_some found mark is = subst (λ o. IsSome o) (sym is) refl

pub found_same : (found : Option Mark) (mark other : Mark) → found ≡ Some mark → found ≡ Some other → mark ≡ other
found_same found mark other is is' = ap (λ o. unwrap_or o other) (sym is ∙ is')

-- one more message of records
pub gave_records : (earlier : List (List ℕ)) (messages : List ReadMessage) (batch : _) → GiveRecords earlier messages → GiveRecords (earlier ++ batch.items) (messages ++ Records batch ∷ [])
gave_records earlier [] batch give = ([], ap (λ all. all ++ batch.items) give ∙ sym (append-nil batch.items), refl)
gave_records earlier (Records first ∷ messages) batch (rest, spelt, give) =
    (rest ++ batch.items, ap (λ all. all ++ batch.items) spelt ∙ append_assoc first.items rest batch.items, gave_records rest messages batch give)
gave_records earlier (End _ ∷ messages) batch give = absurd give
gave_records earlier (Stop ∷ messages) batch give = absurd give
