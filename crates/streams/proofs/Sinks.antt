-- Texts that reach a sink in parts.
use Rattle.std.proofs.Common.{◌≡◌, ℕ, ◌+◌, Bool, false, List, [], ◌++◌, Option, None, Some, Result, Ok, Err, take, drop, subst, sym, ◌∙◌, ap, append_assoc, append-nil, arith}
use Rattle.std.proofs.lemmas.List.{drop-take, take-append-drop, take-take}
use Rattle.std.specs.Io.KnownBytes.{Appends, Keeps}
use Rattle.streams.specs.declared.output.WriteFault.{WriteFault}
use Rattle.streams.specs.declared.output.WriteFault.TheVariants.{Write, Memory}
use Rattle.streams.specs.FrameLines.{added_front}
pub use Rattle.streams.specs.FrameLines.{added_none, added_both}
use Rattle.streams.specs.Sink.{Writes, AppendsPrefix, IsInTransit, StaysInTransit}

-- an addition and then a call that adds nothing
pub added_kept : (a b c : Option (List ℕ)) (xs : List ℕ) → Appends a b xs → Keeps b c → Appends a c xs
added_kept None b c xs p q = tt
added_kept (Some x) None c xs p q = absurd p
added_kept (Some x) (Some y) None xs p q = absurd q
added_kept (Some x) (Some y) (Some z) xs p q = q ∙ p

-- a longer beginning of a list, in two parts
take-add : (n m : ℕ) (xs : List ℕ) → take (n + m) xs ≡ take n xs ++ take m (drop n xs)
take-add n m xs = sym (take-append-drop n (take (n + m) xs)) ∙ ap (λ l. take n (take (n + m) xs) ++ l) (drop-take n m xs) ∙ ap (λ l. l ++ take m (drop n xs)) (take-take n (n + m) xs (omega arith))

-- the beginning of a text and the next bytes of it
pub added_next : (a b c : Option (List ℕ)) (text : List ℕ) (at count : ℕ)
    → Appends a b (take at text) → Appends b c (take count (drop at text)) → Appends a c (take (at + count) text)
added_next a b c text at count p q =
    let joined : take at text ++ take count (drop at text) ≡ take (at + count) text = sym (take-add at count text) in
    subst (Appends a c) joined (added_both a b c _ _ p q)

-- a beginning of what waits was added: a beginning of the whole text was
pub sent_front : (start now after : Option (List ℕ)) (waiting text more : List ℕ) → IsInTransit start now waiting text
    → AppendsPrefix now after waiting → AppendsPrefix start after (text ++ more)
sent_front start now after waiting text more w f =
    let spelt : text ++ more ≡ (w.sent ++ f.0) ++ (f.1 ++ more) =
    ap (λ l. l ++ more) (w.split ∙ ap (λ l. w.sent ++ l) f.2 ∙ sym (append_assoc w.sent f.0 f.1)) ∙ append_assoc (w.sent ++ f.0) f.1 more in
    (w.sent ++ f.0, f.1 ++ more, spelt, added_both start now after _ _ w.added f.3)

-- one text was written whole, and then another
pub stays_both : (old mid new : Option (List ℕ)) (waited between waits : List ℕ) (was failed : Bool) (more next whole : List ℕ) (a : Unit {0}) (r : Result (Unit {0}) WriteFault)
    → StaysInTransit old waited mid between was more (Ok a) → StaysInTransit mid between new waits failed next r → more ++ next ≡ whole
    → StaysInTransit old waited new waits failed whole r
stays_both old mid new waited between waits was failed more next whole a (Ok b) p q joined = (
  q.0,
  λ start text way. subst (IsInTransit start new waits) (append_assoc text more next ∙ ap (λ l. text ++ l) joined) (q.1 start (text ++ more) (p.1 start text way)),
)
stays_both old mid new waited between waits was failed more next whole a (Err Write) p q joined = (
  q.0,
  λ start text way. subst (AppendsPrefix start new) (append_assoc text more next ∙ ap (λ l. text ++ l) joined) (q.1 start (text ++ more) (p.1 start text way)),
)
stays_both old mid new waited between waits was failed more next whole a (Err Memory) p q joined = q

-- a text was not written whole, and so no text that goes on from it
pub stays_fails : (old new : Option (List ℕ)) (waited waits : List ℕ) (failed : Bool) (more rest whole : List ℕ) (e : WriteFault) (r : Result (Unit {0}) WriteFault)
    → StaysInTransit {A = Unit {0}} old waited new waits failed more (Err e) → whole ≡ more ++ rest → r ≡ Err e → StaysInTransit old waited new waits failed whole r
stays_fails old new waited waits failed more rest whole Write r stays split is =
    subst (StaysInTransit {A = Unit {0}} old waited new waits failed whole) (sym is) (
      stays.0,
      λ start text way. let f = stays.1 start text way in
          (f.0, f.1 ++ rest, ap (λ l. text ++ l) split ∙ sym (append_assoc text more rest) ∙ ap (λ l. l ++ rest) f.2 ∙ append_assoc f.0 f.1 rest, f.3),
    )
stays_fails old new waited waits failed more rest whole Memory r stays split is = absurd stays

-- what is in transit is written whole, and nothing is buffered
pub flush_waits : (old new : Option (List ℕ)) (waited waits : List ℕ) (failed : Bool) (a b : Unit {0})
    → Writes old new failed waited (Ok a) → waits ≡ [] → StaysInTransit old waited new waits failed [] (Ok b)
flush_waits old new waited waits failed a b w none = (
  w.0,
  λ start text way. record {
    sent = text;
    split = ap (λ l. text ++ l) (sym none);
    added = subst (Appends start new) (sym way.split) (added_both start old new way.sent waited way.added w.1);
  },
)

-- nothing was written
pub kept_waits : (now : Option (List ℕ)) (waits : List ℕ) (failed : Bool) (b : Unit {0}) → failed ≡ false → StaysInTransit now waits now waits failed [] (Ok b)
kept_waits now waits failed b stands = (stands, λ start text way. subst (IsInTransit start now waits) (sym (append-nil text)) way)

-- what is in transit was not written whole, and so no text that goes on from it
pub flush_fails : (old mid new : Option (List ℕ)) (waited waiting waits : List ℕ) (was failed : Bool) (front rest whole : List ℕ) (a : Unit {0}) (e : WriteFault) (r : Result (Unit {0}) WriteFault)
    → StaysInTransit old waited mid waiting was front (Ok a) → Writes {A = Unit {0}} mid new failed waiting (Err e) → whole ≡ front ++ rest → r ≡ Err e
    → StaysInTransit old waited new waits failed whole r
flush_fails old mid new waited waiting waits was failed front rest whole a Write r p w split is =
    subst (StaysInTransit {A = Unit {0}} old waited new waits failed whole) (sym is) (
      w.0,
      λ start text way. subst (AppendsPrefix start new) (append_assoc text front rest ∙ ap (λ l. text ++ l) (sym split))
          (sent_front start mid new waiting (text ++ front) rest (p.1 start text way) w.1),
    )
flush_fails old mid new waited waiting waits was failed front rest whole a Memory r p w split is = absurd w

-- there was no room for a line
pub room_fails : (old new : Option (List ℕ)) (waited waits : List ℕ) (failed : Bool) (more : List ℕ) (e : WriteFault) (r : Result (Unit {0}) WriteFault)
    → StaysInTransit {A = Unit {0}} old waited new waits failed [] (Err e) → r ≡ Err e → StaysInTransit old waited new waits failed more r
room_fails old new waited waits failed more Write r stays is =
    subst (StaysInTransit {A = Unit {0}} old waited new waits failed more) (sym is) (
      stays.0,
      λ start text way. let f = stays.1 start text way in
          (f.0, f.1 ++ more, ap (λ l. l ++ more) (sym (append-nil text) ∙ f.2) ∙ append_assoc f.0 f.1 more, f.3),
    )
room_fails old new waited waits failed more Memory r stays is = absurd stays

-- there was room for a line, which was added to what waits
pub line_waits : (old new : Option (List ℕ)) (waited mid waits : List ℕ) (failed : Bool) (more : List ℕ) (a b : Unit {0})
    → StaysInTransit old waited new mid failed [] (Ok a) → waits ≡ mid ++ more → StaysInTransit old waited new waits failed more (Ok b)
line_waits old new waited mid waits failed more a b stays e = (
  stays.0,
  λ start text way. let w = stays.1 start text way in record {
    sent = w.sent;
    split = ap (λ l. l ++ more) (sym (append-nil text) ∙ w.split) ∙ append_assoc w.sent mid more ∙ ap (λ l. w.sent ++ l) (sym e);
    added = w.added;
  },
)

-- a line was not added whole: what was added is a beginning of any text that goes on from that line
pub line_fails : (start old new : Option (List ℕ)) (waited waits : List ℕ) (failed : Bool) (text more rest whole : List ℕ) (e : WriteFault) (r : Result (Unit {0}) WriteFault)
    → IsInTransit start old waited text → StaysInTransit {A = Unit {0}} old waited new waits failed more (Err e) → whole ≡ (text ++ more) ++ rest → r ≡ Err e
    → Writes start new failed whole r
line_fails start old new waited waits failed text more rest whole Write r way stays split is =
    subst (Writes {A = Unit {0}} start new failed whole) (sym is)
    (stays.0, let f = stays.1 start text way in (f.0, f.1 ++ rest, split ∙ ap (λ l. l ++ rest) f.2 ∙ append_assoc f.0 f.1 rest, f.3))
line_fails start old new waited waits failed text more rest whole Memory r way stays split is = absurd stays

-- what waited was put, and with it the whole text
pub flushed_whole : (start old new : Option (List ℕ)) (waiting : List ℕ) (failed : Bool) (text : List ℕ) (r : Result (Unit {0}) WriteFault)
    → IsInTransit start old waiting text → Writes old new failed waiting r → Writes start new failed text r
flushed_whole start old new waiting failed text (Ok x) way w =
    (w.0, subst (Appends start new) (sym way.split) (added_both start old new way.sent waiting way.added w.1))
flushed_whole start old new waiting failed text (Err Write) way w =
    (w.0, let f = sent_front start old new waiting text [] way w.1 in (f.0, f.1, sym (append-nil text) ∙ f.2, f.3))
flushed_whole start old new waiting failed text (Err Memory) way w = w

-- a text was added, and then another was written
pub written_both : {A : Type 0} (old mid new : Option (List ℕ)) (now : Bool) (xs ys : List ℕ) (r : Result A WriteFault)
    → Appends old mid xs → Writes mid new now ys r → Writes old new now (xs ++ ys) r
written_both old mid new now xs ys (Ok _) first then = (then.0, added_both old mid new xs ys first then.1)
written_both old mid new now xs ys (Err Write) first then = (then.0, added_front old mid new xs ys first then.1)
written_both old mid new now xs ys (Err Memory) first then = then

-- a prefix of a text is one of a longer text
pub front_longer : (old new : Option (List ℕ)) (xs ys : List ℕ) → AppendsPrefix old new xs → AppendsPrefix old new (xs ++ ys)
front_longer old new xs ys f = (f.0, f.1 ++ ys, ap (λ l. l ++ ys) f.2 ∙ append_assoc f.0 f.1 ys, f.3)

-- a text was not written whole: no longer one was
pub writing_failed : (A B : Type 0) (old new : Option (List ℕ)) (failed : Bool) (xs ys : List ℕ) (fault : WriteFault)
    → Writes {A = A} old new failed xs (Err fault) → Writes {A = B} old new failed (xs ++ ys) (Err fault)
writing_failed A B old new failed xs ys Write w = (w.0, front_longer old new xs ys w.1)
writing_failed A B old new failed xs ys Memory w = w

-- a prefix of a text that was not written whole was added
pub failed_front : (A : Type 0) (old new : Option (List ℕ)) (failed : Bool) (text : List ℕ) (fault : WriteFault) → Writes {A = A} old new failed text (Err fault)
    → AppendsPrefix old new text
failed_front A old new failed text Write w = w.1
failed_front A old new failed text Memory w = absurd w
