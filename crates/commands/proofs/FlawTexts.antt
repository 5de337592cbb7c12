-- Lines about what is lacking in files, one after another.
use Rattle.std.proofs.Common.{◌≡◌, ◌≢◌, ◌++◌, ◌+◌, ◌≤◌, ◌∙◌, if◌then◌else◌, ℕ, nat_eq, decimal, codes, Bool, true, false, List, [], ◌∷◌, Option, Result, Ok, Err, OnOk, OnErr, Bor, length, drop, map, refl, ap, sym, subst, append_assoc, append-nil}
use Rattle.std.proofs.lemmas.List.{drop_all}
use Rattle.std.specs.Io.KnownBytes.{Appends}
use Rattle.std.specs.List.{concat}
use Rattle.planar_code.specs.declared.partial_record.Ending.TheVariants as ending
use Rattle.streams.specs.declared.frames.Mark.{Mark}
use Rattle.streams.specs.declared.frames.Mark.TheVariants.{Ended, Io}
use Rattle.streams.specs.declared.output.WriteFault.{WriteFault}
use Rattle.streams.specs.declared.output.WriteFault.TheVariants.{Memory, Write}
use Rattle.streams.specs.Sink.{Writes}
use Rattle.streams.specs.Text.{word_of}
use Rattle.streams.proofs.Sinks.{added_both}
use Rattle.collector.specs.declared.find_facts.Flaws.{Flaws}
use Rattle.named_sources.specs.Reasons.{IsWhy}
use Rattle.commands.specs.FlawLines.{AreFlawLines, incomplete_line, lines_of_file, mark_line, memory_line}

-- a sink that refused a text has failed
pub has_failed : (old new : Option (List ℕ)) (failed : Bool) (text : List ℕ) (fault : WriteFault) → Writes {A = Unit {0}} old new failed text (Err fault) → failed ≡ true
has_failed old new failed text Write writes = writes.0
has_failed old new failed text Memory writes = absurd writes

-- what the last of several writes added, and that the sink has failed if it was refused
pub last_added : (old new : Option (List ℕ)) (failed : Bool) (text : List ℕ) (answer : Result (Unit {0}) WriteFault) → Writes old new failed text answer → OnOk answer (Appends old new text)
last_added old new failed text (Ok x) writes = writes.1
last_added old new failed text (Err fault) writes = tt

pub last_failed : (old new : Option (List ℕ)) (failed : Bool) (text : List ℕ) (answer : Result (Unit {0}) WriteFault) → Writes old new failed text answer → OnErr answer (failed ≡ true)
last_failed old new failed text (Ok x) writes = tt
last_failed old new failed text (Err fault) writes = has_failed old new failed text fault writes

-- seven texts, the last of which was added if all went well
pub seven_added : {A F : Type 0} (answer : Result A F) (o a b c d e f new : Option (List ℕ)) (p q r s t u v : List ℕ)
    → Appends o a p → Appends a b q → Appends b c r → Appends c d s → Appends d e t → Appends e f u → OnOk answer (Appends f new v)
    → OnOk answer (Appends o new (concat (p ∷ q ∷ r ∷ s ∷ t ∷ u ∷ v ∷ [])))
seven_added (Ok x) o a b c d e f new p q r s t u v first second third fourth fifth sixth last =
    added_both o a new p _ first (added_both a b new q _ second (added_both b c new r _ third (added_both c d new s _ fourth (added_both d e new t _ fifth
    (added_both e f new u _ sixth (subst (Appends f new) (sym (append-nil v)) last))))))
seven_added (Err fault) o a b c d e f new p q r s t u v first second third fourth fifth sixth last = tt

-- the line about a file that does not end complete
pub line_of_mark : (name : List ℕ) (mark : Mark) (word why : List ℕ) → mark ≢ Ended ending.Complete → word ≡ word_of mark → mark_line name word why ≡ incomplete_line name mark why
line_of_mark name Io word why not is = ap (λ (w : List ℕ). mark_line name w why) is
line_of_mark name (Ended ending.Complete) word why not is = absurd (not refl)
line_of_mark name (Ended ending.Many) word why not is = ap (λ (w : List ℕ). mark_line name w why) is
line_of_mark name (Ended ending.Large) word why not is = ap (λ (w : List ℕ). mark_line name w why) is
line_of_mark name (Ended ending.Truncated) word why not is = ap (λ (w : List ℕ). mark_line name w why) is
line_of_mark name (Ended ending.Oversize) word why not is = ap (λ (w : List ℕ). mark_line name w why) is
line_of_mark name (Ended ending.Header) word why not is = ap (λ (w : List ℕ). mark_line name w why) is
line_of_mark name (Ended ending.Memory) word why not is = ap (λ (w : List ℕ). mark_line name w why) is

-- two texts, the second of which was added if all went well
pub both_added : {A F : Type 0} (answer : Result A F) (a b c : Option (List ℕ)) (xs ys : List ℕ) → Appends a b xs → OnOk answer (Appends b c ys) → OnOk answer (Appends a c (xs ++ ys))
both_added (Ok x) a b c xs ys first second = added_both a b c xs ys first second
both_added (Err fault) a b c xs ys first second = tt

-- ---- the lines of all files

abbrev names_of : List (Bor (List ℕ)) → List (List ℕ)
names_of names = map (λ name. name.now) names

-- this text, followed by the lines about the files from this one on, is that of the lines about all files
abbrev pub IsLinesUpTo : List (Bor (List ℕ)) → List Flaws → ℕ → List ℕ → Type 0
IsLinesUpTo names flaws i front = (rest : List ℕ) → AreFlawLines (names_of (drop i names)) (drop i flaws) rest → AreFlawLines (names_of names) flaws (front ++ rest)

pub lines_next : (names : List (Bor (List ℕ))) (flaws : List Flaws) (i : ℕ) (name : Bor (List ℕ)) (lacking : Flaws) (why front : List ℕ) → IsWhy why
    → drop i names ≡ name ∷ drop (i + 1) names → drop i flaws ≡ lacking ∷ drop (i + 1) flaws
    → IsLinesUpTo names flaws i front → IsLinesUpTo names flaws (i + 1) (front ++ lines_of_file name.now lacking why)
lines_next names flaws i name lacking why front is first also before rest told =
    let own = lines_of_file name.now lacking why in
    let here : AreFlawLines (name.now ∷ names_of (drop (i + 1) names)) (lacking ∷ drop (i + 1) flaws) (own ++ rest) = (why, is, rest, refl, told) in
    subst (AreFlawLines (names_of names) flaws) (sym (append_assoc front own rest))
    (before (own ++ rest)
    (subst (λ (ns : List (Bor (List ℕ))). AreFlawLines (names_of ns) (drop i flaws) (own ++ rest)) (sym first)
    (subst (λ (fs : List Flaws). AreFlawLines (name.now ∷ names_of (drop (i + 1) names)) fs (own ++ rest)) (sym also) here)))

no_flaws : (names : List (List ℕ)) → AreFlawLines names [] []
no_flaws [] = refl
no_flaws (name ∷ names) = refl

-- all flaws, or all names, are told
pub flaws_end : (names : List (Bor (List ℕ))) (flaws : List Flaws) (i : ℕ) (front : List ℕ) → length flaws ≤ i → IsLinesUpTo names flaws i front → AreFlawLines (names_of names) flaws front
flaws_end names flaws i front over before =
    subst (AreFlawLines (names_of names) flaws) (append-nil front)
    (before [] (subst (λ (fs : List Flaws). AreFlawLines (names_of (drop i names)) fs []) (sym (drop_all i flaws over)) (no_flaws (names_of (drop i names)))))

pub names_end : (names : List (Bor (List ℕ))) (flaws : List Flaws) (i : ℕ) (front : List ℕ) → length names ≤ i → IsLinesUpTo names flaws i front → AreFlawLines (names_of names) flaws front
names_end names flaws i front over before =
    subst (AreFlawLines (names_of names) flaws) (append-nil front)
    (before [] (subst (λ (ns : List (Bor (List ℕ))). AreFlawLines (names_of ns) (drop i flaws) []) (sym (drop_all i names over)) refl))

-- the line about graphs for which memory ran out, of parts
pub memory_text : (name count first : List ℕ) (flaws : Flaws) (own : List ℕ) → nat_eq flaws.unanswered 0 ≡ false → own ≡ name → count ≡ decimal flaws.unanswered
    → first ≡ decimal (flaws.first + 1)
    → concat (codes "planarbend: " ∷ own ∷ codes ": graphs for which memory ran out: " ∷ count ∷ codes ", the first is graph " ∷ first ∷ codes "\n" ∷ []) ≡ memory_line name flaws
memory_text name count first flaws own some own_is count_is first_is =
    ap (λ (n : List ℕ). concat (codes "planarbend: " ∷ n ∷ codes ": graphs for which memory ran out: " ∷ count ∷ codes ", the first is graph " ∷ first ∷ codes "\n" ∷ [])) own_is
    ∙ ap (λ (c : List ℕ). concat (codes "planarbend: " ∷ name ∷ codes ": graphs for which memory ran out: " ∷ c ∷ codes ", the first is graph " ∷ first ∷ codes "\n" ∷ [])) count_is
    ∙ ap (λ (f : List ℕ). concat (codes "planarbend: " ∷ name ∷ codes ": graphs for which memory ran out: " ∷ decimal flaws.unanswered ∷ codes ", the first is graph " ∷ f ∷ codes "\n" ∷ [])) first_is
    ∙ ap (λ (b : Bool). if b then [] else concat (codes "planarbend: " ∷ name ∷ codes ": graphs for which memory ran out: " ∷ decimal flaws.unanswered
    ∷ codes ", the first is graph " ∷ decimal (flaws.first + 1) ∷ codes "\n" ∷ [])) (sym some)

-- the line about a file that does not end complete, of parts
pub mark_text : (name word why own called reason : List ℕ) → own ≡ name → called ≡ word → reason ≡ why
    → concat (codes "planarbend: " ∷ own ∷ codes ": not complete (" ∷ called ∷ codes ")" ∷ reason ∷ codes "\n" ∷ []) ≡ mark_line name word why
mark_text name word why own called reason own_is word_is reason_is =
    ap (λ (n : List ℕ). mark_line n called reason) own_is ∙ ap (λ (w : List ℕ). mark_line name w reason) word_is ∙ ap (mark_line name word) reason_is
