-- The lines of verdicts, one after another, and what is true of each.
use Rattle.std.proofs.Common.{◌≡◌, ◌↔◌, ◌<◌, ◌≤◌, ℕ, true, false, refl, suc, ◌+◌, get_or, take, Bool, List, [], ◌∷◌, ◌++◌, All, Option, Ok, Err, length, ap, subst, sym, ◌∙◌, append_assoc, append-nil, arith}
use Rattle.std.proofs.Math.Seq.{take-append_seam, take-suc}
use Rattle.std.proofs.lemmas.List.{take_all}
use Rattle.std.proofs.lemmas.List.Elements.{All-take, All-contains, Contains-push}
use Rattle.streams.specs.declared.frames.Form.{Form}
use Rattle.streams.specs.declared.output.WriteFault.{WriteFault}
use Rattle.streams.specs.declared.output.WriteFault.TheVariants.{Write, Memory}
use Rattle.streams.specs.Sink.{AppendsPrefix, IsInTransit, StaysInTransit, Writes}
use Rattle.streams.proofs.Sinks.{sent_front, line_waits}
use Rattle.checking.specs.declared.judging.Verdict.{Verdict}
use Rattle.checking.specs.Text.{verdict_line, verdict_lines}

-- one line more
pub verdict_lines-next : (form : Form) (number : ℕ) (verdicts : List Verdict) (v : Verdict) (last : ℕ) → last ≡ number + length verdicts
    → verdict_lines form number (verdicts ++ v ∷ []) ≡ verdict_lines form number verdicts ++ verdict_line form last v
verdict_lines-next form number [] v last is = append-nil _ ∙ ap (λ n. verdict_line form n v) (omega arith)
verdict_lines-next form number (u ∷ verdicts) v last is =
    ap (λ l. verdict_line form number u ++ l) (verdict_lines-next form (number + 1) verdicts v last (omega arith))
    ∙ sym (append_assoc (verdict_line form number u) (verdict_lines form (number + 1) verdicts) (verdict_line form last v))

-- what holds of each and of one more
pub all_next : {X : Type 0} (P : X → Type 0) (xs : List X) (x : X) → All P (xs ++ x ∷ []) → All P xs × P x
all_next P xs x all = (
  subst (All P) (take-append_seam xs (x ∷ [])) (All-take P (length xs) (xs ++ x ∷ []) all),
  All-contains P (xs ++ x ∷ []) x all (Contains-push xs x),
)

-- ---- what reaches the output

-- what waits is left out
pub sent_only : (start now : Option (List ℕ)) (waiting text : List ℕ) → IsInTransit start now waiting text → AppendsPrefix start now text
sent_only start now waiting text way = (way.sent, waiting, way.split, way.added)

-- a failure before there was room
pub room_lost : (start old new : Option (List ℕ)) (waited waits text : List ℕ) (failed : Bool) (fault : WriteFault)
    → StaysInTransit {A = Unit {0}} old waited new waits failed [] (Err fault) → IsInTransit start old waited text → AppendsPrefix start new text
room_lost start old new waited waits text failed Write stays way =
    let f = stays.1 start text way in (f.0, f.1, sym (append-nil text) ∙ f.2, f.3)
room_lost start old new waited waits text failed Memory stays way = absurd stays

-- a failure while all that waited was put
pub flush_lost : (start old new : Option (List ℕ)) (waiting text : List ℕ) (failed : Bool) (fault : WriteFault)
    → Writes {A = Unit {0}} old new failed waiting (Err fault) → IsInTransit start old waiting text → AppendsPrefix start new text
flush_lost start old new waiting text failed Write writes way =
    let f = sent_front start old new waiting text [] way writes.1 in (f.0, f.1, sym (append-nil text) ∙ f.2, f.3)
flush_lost start old new waiting text failed Memory writes way = absurd writes

-- there was no room exactly if the sink failed
pub room_fault : (old new : Option (List ℕ)) (waited waits more : List ℕ) (failed : Bool) (fault : WriteFault)
    → StaysInTransit {A = Unit {0}} old waited new waits failed more (Err fault) → (fault ≡ Write) ↔ (failed ≡ true)
room_fault old new waited waits more failed Write stays = (λ is. stays.0, λ is. refl)
room_fault old new waited waits more failed Memory stays = absurd stays

pub flush_fault : (old new : Option (List ℕ)) (waiting : List ℕ) (failed : Bool) (fault : WriteFault)
    → Writes {A = Unit {0}} old new failed waiting (Err fault) → (fault ≡ Write) ↔ (failed ≡ true)
flush_fault old new waiting failed Write writes = (λ is. writes.0, λ is. refl)
flush_fault old new waiting failed Memory writes = absurd writes

-- memory ran out, and the sink has not failed
pub memory_fault : (failed : Bool) (fault : WriteFault) → fault ≡ Memory → failed ≡ false → (fault ≡ Write) ↔ (failed ≡ true)
memory_fault failed fault memory intact = (λ is. (cc), λ is. (cc))

-- a line more
pub line_added : (start old new : Option (List ℕ)) (waited mid waits text line whole : List ℕ) (failed : Bool)
    → StaysInTransit {A = Unit {0}} old waited new mid failed [] (Ok tt) → waits ≡ mid ++ line → whole ≡ text ++ line
    → IsInTransit start old waited text → IsInTransit start new waits whole
line_added start old new waited mid waits text line whole failed stays is same way =
    let more = line_waits old new waited mid waits failed line tt tt stays is in
    subst (IsInTransit start new waits) (sym same) (more.1 start text way)

-- ---- the records of a list, one after another

pub taken_next : (earlier xs : List (List ℕ)) (i : ℕ) (x : List ℕ) → i < length xs → x ≡ get_or xs i x → (earlier ++ take i xs) ++ x ∷ [] ≡ earlier ++ take (i + 1) xs
taken_next earlier xs i x low is =
    let next : suc i ≡ i + 1 = omega arith in
    append_assoc earlier (take i xs) (x ∷ [])
    ∙ ap (λ (l : List (List ℕ)). earlier ++ l) (ap (λ (y : List ℕ). take i xs ++ y ∷ []) is ∙ sym (take-suc xs i x low) ∙ ap (λ (n : ℕ). take n xs) next)

pub taken_all : (xs : List (List ℕ)) (i : ℕ) → length xs ≤ i → take i xs ≡ xs
taken_all xs i high = take_all i xs high
