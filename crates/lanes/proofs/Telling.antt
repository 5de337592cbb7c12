-- A seat draws one file more, and all is told of it.
use Rattle.std.proofs.Common.{◌≡◌, ◌≢◌, ℕ, ◌+◌, ◌==◌, cond, List, [], ◌∷◌, ◌++◌, map, inl, inr, refl, sym, ap, subst, ◌∙◌, arith, append-nil, append_assoc}
use Rattle.std.proofs.lemmas.Bool.{cases_eq, eq-eqb, ne_eqb}
use Rattle.std.proofs.lemmas.List.Elements.{filter-append}
use Rattle.std.proofs.lemmas.List.Sums.{sum_by-cons, sum_by-append}
use Rattle.streams.specs.declared.frames.Mark.{Mark}
use Rattle.common.specs.declared.parameters.Choice.{Choice}
use Rattle.lanes.specs.Notes.{About, Note, is_of, of_file, file_notes, numbered, GoOn, IsStopped, Item, End, Stop}
use Rattle.lanes.specs.Opening.{Meaning}
use Rattle.ruled_lanes.specs.TicketProtocol.{times}
use Rattle.lanes.proofs.Passing.{going_both}
use Rattle.lanes.specs.Keeping.{KeepsFile}
use Rattle.lanes.specs.Files.{HasFile, HasDrawn}
use Rattle.lanes.specs.Lanes.{HasTold, TellsFile}

-- all notes of a file are of it, and none of another
of_mine : (choice : Choice) (file ordinal : ℕ) (records : List (List ℕ)) (mark : Mark)
    → of_file file (map Item (numbered choice file ordinal records) ++ End file mark ∷ []) ≡ map Item (numbered choice file ordinal records) ++ End file mark ∷ []
of_mine choice file ordinal [] mark = ap (λ b. cond b (End file mark ∷ []) []) (eq-eqb file file refl)
of_mine choice file ordinal (bytes ∷ records) mark =
    let first : Note = Item (record { file = file; ordinal = ordinal; bytes = bytes; choice = choice }) in
    let rest : List Note = map Item (numbered choice file (ordinal + 1) records) ++ End file mark ∷ [] in
    ap (λ b. cond b (first ∷ of_file file rest) (of_file file rest)) (eq-eqb file file refl) ∙ ap (λ l. first ∷ l) (of_mine choice file (ordinal + 1) records mark)

of_other : (choice : Choice) (other file ordinal : ℕ) (records : List (List ℕ)) (mark : Mark) → file ≢ other
    → of_file other (map Item (numbered choice file ordinal records) ++ End file mark ∷ []) ≡ []
of_other choice other file ordinal [] mark apart = ap (λ b. cond b (End file mark ∷ []) []) (ne_eqb file other apart)
of_other choice other file ordinal (bytes ∷ records) mark apart =
    let first : Note = Item (record { file = file; ordinal = ordinal; bytes = bytes; choice = choice }) in
    let rest : List Note = map Item (numbered choice file (ordinal + 1) records) ++ End file mark ∷ [] in
    ap (λ b. cond b (first ∷ of_file other rest) (of_file other rest)) (ne_eqb file other apart) ∙ of_other choice other file (ordinal + 1) records mark apart

-- notes that go on
going_file : (xs : List About) (file : ℕ) (mark : Mark) → GoOn (map Item xs ++ End file mark ∷ [])
going_file [] file mark = tt
going_file (x ∷ xs) file mark = going_file xs file mark

pub file_as : (choice : Choice) (meaning : Meaning) (file : ℕ) (ns others : List Note) → of_file file others ≡ of_file file ns → HasFile choice meaning file ns → HasFile choice meaning file others
file_as choice meaning file ns others same has = record { records = has.records; mark = has.mark; told = same ∙ has.told; found = has.found }

-- how often a number stands in a list with one more
times_more : (x y : ℕ) (xs : List ℕ) → times x (xs ++ y ∷ []) ≡ times x xs + cond (y == x) 1 0
times_more x y xs =
    let both = sum_by-append (λ z. cond (z == x) 1 0) xs (y ∷ []) in
    let one = sum_by-cons (λ z. cond (z == x) 1 0) y [] in omega (arith, both, one)

times_mine : (x y : ℕ) (xs : List ℕ) → y ≡ x → times x (xs ++ y ∷ []) ≡ times x xs + 1
times_mine x y xs same = times_more x y xs ∙ ap (λ b. times x xs + cond b 1 0) (eq-eqb y x same)

times_other : (x y : ℕ) (xs : List ℕ) → y ≢ x → times x (xs ++ y ∷ []) ≡ times x xs
times_other x y xs apart = times_more x y xs ∙ ap (λ b. times x xs + cond b 1 0) (ne_eqb y x apart) ∙ omega arith

-- where nothing was drawn, nothing is told
pub nothing_drawn : (choice : Choice) (meaning : ℕ → Meaning) (drawn : List ℕ) (ns : List Note) → drawn ≡ [] → ns ≡ [] → HasDrawn choice meaning drawn ns
nothing_drawn choice meaning drawn ns none silent = record {
  own = λ file once. absurd (omega (arith, once, ap (times file) none));
  others = λ file elsewhere. ap (of_file file) silent;
}

pub told_none : (choice : Choice) (meaning : ℕ → Meaning) (drawn : List ℕ) (ns : List Note) → drawn ≡ [] → ns ≡ [] → HasTold choice meaning drawn ns
told_none choice meaning drawn ns none silent = record { going = subst GoOn (sym silent) tt; told = nothing_drawn choice meaning drawn ns none silent }

told_file : (choice : Choice) (meaning : ℕ → Meaning) (file : ℕ) (drawn : List ℕ) (ns : List Note) (records : List (List ℕ)) (mark : Mark) → HasTold choice meaning drawn ns
    → HasFile choice (meaning file) file (file_notes choice file records mark) → HasTold choice meaning (drawn ++ file ∷ []) (ns ++ file_notes choice file records mark)
told_file choice meaning file drawn ns records mark told has =
    let fs : List Note = file_notes choice file records mark in
    let apart : (k : ℕ) → file ≢ k → of_file k (ns ++ fs) ≡ of_file k ns = λ k other.
    filter-append (is_of k) ns fs ∙ ap (λ l. of_file k ns ++ l) (of_other choice k file 0 records mark other) ∙ append-nil (of_file k ns) in
    record {
      going = going_both ns fs told.going (going_file (numbered choice file 0 records) file mark);
      told = record {
        own = λ k once.
            elim (cases_eq file k) [
              | inl same ↦ subst (λ x. HasFile choice (meaning x) x (ns ++ fs)) same
                  (file_as choice (meaning file) file fs (ns ++ fs)
                  (filter-append (is_of file) ns fs
                  ∙ ap (λ l. l ++ of_file file fs) (told.told.others file (subst (λ x. times x drawn ≡ 0) (sym same) (omega (arith, once, times_mine k file drawn same))))) has)
              | inr other ↦ file_as choice (meaning k) k ns (ns ++ fs) (apart k other) (told.told.own k (sym (times_other k file drawn other) ∙ once))
            ];
        others = λ k none.
            elim (cases_eq file k) [
              | inl same ↦ absurd (omega (arith, none, times_mine k file drawn same))
              | inr other ↦ apart k other ∙ told.told.others k (sym (times_other k file drawn other) ∙ none)
            ];
      };
    }

-- one file more was drawn and told
pub told_more : (choice : Choice) (meaning : ℕ → Meaning) (file : ℕ) (drawn drawn' : List ℕ) (ns after : List Note) → HasTold choice meaning drawn ns
    → drawn' ≡ drawn ++ file ∷ [] → TellsFile choice (meaning file) file ns after → HasTold choice meaning drawn' after
told_more choice meaning file drawn drawn' ns after told drew tells =
    let keeps = tells.keeps in
    let fs : List Note = file_notes choice file keeps.records tells.mark in
    let whole : ns ++ fs ≡ after =
    sym (append_assoc ns (map Item (numbered choice file 0 keeps.records)) (End file tells.mark ∷ [])) ∙ ap (λ l. l ++ End file tells.mark ∷ []) (sym keeps.kept) ∙ sym tells.ended in
    subst (λ d. HasTold choice meaning d after) (sym drew)
    (subst (HasTold choice meaning (drawn ++ file ∷ [])) whole
    (told_file choice meaning file drawn ns keeps.records tells.mark told
    (record { records = keeps.records; mark = tells.mark; told = of_mine choice file 0 keeps.records tells.mark; found = keeps.found })))

-- the stop
pub told_all : (choice : Choice) (meaning : ℕ → Meaning) (drawn drawn' : List ℕ) (ns after : List Note) → HasTold choice meaning drawn ns → drawn' ≡ drawn → after ≡ ns ++ Stop ∷ []
    → IsStopped after × HasDrawn choice meaning drawn' after
told_all choice meaning drawn drawn' ns after told drew more =
    let same : (k : ℕ) → of_file k after ≡ of_file k ns = λ k. ap (of_file k) more ∙ filter-append (is_of k) ns (Stop ∷ []) ∙ append-nil (of_file k ns) in (
      (ns, more, told.going),
      record {
        own = λ k once. file_as choice (meaning k) k ns after (same k) (told.told.own k (sym (ap (times k) drew) ∙ once));
        others = λ k none. same k ∙ told.told.others k (sym (ap (times k) drew) ∙ none);
      },
    )

-- what is kept of a file, from notes that are the same
pub keeps_as : (choice : Choice) (meaning : Meaning) (file : ℕ) (before before' after after' : List Note) (count : ℕ) (mark : Mark) → before' ≡ before → after ≡ after'
    → KeepsFile choice meaning file before' after' count mark → KeepsFile choice meaning file before after count mark
keeps_as choice meaning file before before' after after' count mark was is keeps = record {
  records = keeps.records;
  counted = keeps.counted;
  kept = is ∙ keeps.kept ∙ ap (λ l. l ++ map Item (numbered choice file 0 keeps.records)) was;
  found = keeps.found;
}
