-- Calls in a row that need memory and keep a text on its way to a sink.
use Rattle.std.proofs.Common.{◌≡◌, ℕ, Bool, false, List, ◌++◌, Option, Result, Ok, Err, subst, sym, ◌∙◌, ap, append_assoc}
use Rattle.streams.specs.declared.output.WriteFault.{WriteFault}
use Rattle.streams.specs.declared.output.WriteFault.TheVariants.{Write, Memory}
use Rattle.streams.specs.Sink.{Writes, AppendsPrefix, IsInTransit, StaysInTransit}
use Rattle.streams.proofs.Sinks.{flushed_whole}
use Rattle.reports.specs.Writing.{WritesOrLacks, StaysOrLacks}

-- a call that needs no memory
pub stays_as_well : {A : Type 0} (old new : Option (List ℕ)) (waited waits : List ℕ) (failed : Bool) (more : List ℕ) (r : Result A WriteFault)
    → StaysInTransit old waited new waits failed more r → StaysOrLacks old waited new waits failed more r
stays_as_well old new waited waits failed more (Ok x) stays = stays
stays_as_well old new waited waits failed more (Err Write) stays = stays
stays_as_well old new waited waits failed more (Err Memory) stays = absurd stays

-- one text was written whole, and then another
pub lacks_both : (old mid new : Option (List ℕ)) (waited between waits : List ℕ) (was failed : Bool) (more next whole : List ℕ) (a : Unit {0}) (r : Result (Unit {0}) WriteFault)
    → StaysOrLacks old waited mid between was more (Ok a) → StaysOrLacks mid between new waits failed next r → more ++ next ≡ whole
    → StaysOrLacks old waited new waits failed whole r
lacks_both old mid new waited between waits was failed more next whole a (Ok b) p q joined = (
  q.0,
  λ start text way. subst (IsInTransit start new waits) (append_assoc text more next ∙ ap (λ l. text ++ l) joined) (q.1 start (text ++ more) (p.1 start text way)),
)
lacks_both old mid new waited between waits was failed more next whole a (Err Write) p q joined = (
  q.0,
  λ start text way. subst (AppendsPrefix start new) (append_assoc text more next ∙ ap (λ l. text ++ l) joined) (q.1 start (text ++ more) (p.1 start text way)),
)
lacks_both old mid new waited between waits was failed more next whole a (Err Memory) p q joined = (
  q.0,
  λ start text way. subst (AppendsPrefix start new) (append_assoc text more next ∙ ap (λ l. text ++ l) joined) (q.1 start (text ++ more) (p.1 start text way)),
)

-- a beginning of a text is one of any text that goes on from it
longer : (old new : Option (List ℕ)) (text more rest whole : List ℕ) → AppendsPrefix old new (text ++ more) → whole ≡ more ++ rest → AppendsPrefix old new (text ++ whole)
longer old new text more rest whole f split =
    (f.0, f.1 ++ rest, ap (λ l. text ++ l) split ∙ sym (append_assoc text more rest) ∙ ap (λ l. l ++ rest) f.2 ∙ append_assoc f.0 f.1 rest, f.3)

-- a text was not written whole, and so no text that goes on from it
pub lacks_more : (old new : Option (List ℕ)) (waited waits : List ℕ) (failed : Bool) (more rest whole : List ℕ) (e : WriteFault) (r : Result (Unit {0}) WriteFault)
    → StaysOrLacks {A = Unit {0}} old waited new waits failed more (Err e) → whole ≡ more ++ rest → r ≡ Err e → StaysOrLacks old waited new waits failed whole r
lacks_more old new waited waits failed more rest whole Write r stays split is =
    subst (StaysOrLacks {A = Unit {0}} old waited new waits failed whole) (sym is)
    (stays.0, λ start text way. longer start new text more rest whole (stays.1 start text way) split)
lacks_more old new waited waits failed more rest whole Memory r stays split is =
    subst (StaysOrLacks {A = Unit {0}} old waited new waits failed whole) (sym is)
    (stays.0, λ start text way. longer start new text more rest whole (stays.1 start text way) split)

-- what was on its way is a beginning of the whole text
pub lacks_whole : (start old new : Option (List ℕ)) (waited waits : List ℕ) (failed : Bool) (text more rest whole : List ℕ) (e : WriteFault) (r : Result (Unit {0}) WriteFault)
    → IsInTransit start old waited text → StaysOrLacks {A = Unit {0}} old waited new waits failed more (Err e) → whole ≡ (text ++ more) ++ rest → r ≡ Err e
    → WritesOrLacks start new failed whole r
lacks_whole start old new waited waits failed text more rest whole Write r way stays split is =
    let f = stays.1 start text way in
    subst (WritesOrLacks {A = Unit {0}} start new failed whole) (sym is)
    (stays.0, (f.0, f.1 ++ rest, split ∙ ap (λ l. l ++ rest) f.2 ∙ append_assoc f.0 f.1 rest, f.3))
lacks_whole start old new waited waits failed text more rest whole Memory r way stays split is =
    let f = stays.1 start text way in
    subst (WritesOrLacks {A = Unit {0}} start new failed whole) (sym is)
    (stays.0, (f.0, f.1 ++ rest, split ∙ ap (λ l. l ++ rest) f.2 ∙ append_assoc f.0 f.1 rest, f.3))

-- what waited was put, and with it the whole text
pub lacks_nothing : (start old new : Option (List ℕ)) (waiting : List ℕ) (failed : Bool) (text : List ℕ) (r : Result (Unit {0}) WriteFault)
    → IsInTransit start old waiting text → Writes old new failed waiting r → WritesOrLacks start new failed text r
lacks_nothing start old new waiting failed text (Ok x) way w = flushed_whole start old new waiting failed text (Ok x) way w
lacks_nothing start old new waiting failed text (Err Write) way w = flushed_whole start old new waiting failed text (Err Write) way w
lacks_nothing start old new waiting failed text (Err Memory) way w = absurd w

-- there was no memory for a text: what was put is a beginning of it
pub lacks_now : (old : Option (List ℕ)) (waited : List ℕ) (failed : Bool) (more : List ℕ) → failed ≡ false → StaysOrLacks {A = Unit {0}} old waited old waited failed more (Err Memory)
lacks_now old waited failed more whole =
    (whole, λ start text way. (way.sent, waited ++ more, ap (λ l. l ++ more) way.split ∙ append_assoc way.sent waited more, way.added))

-- a text that was made was written without more memory
pub writes_made : (old new : Option (List ℕ)) (waited waits : List ℕ) (failed : Bool) (made more : List ℕ) (r : Result (Unit {0}) WriteFault)
    → made ≡ more → StaysInTransit old waited new waits failed made r → StaysOrLacks old waited new waits failed more r
writes_made old new waited waits failed made more r same stays =
    stays_as_well old new waited waits failed more r (subst (λ (l : List ℕ). StaysInTransit old waited new waits failed l r) same stays)
