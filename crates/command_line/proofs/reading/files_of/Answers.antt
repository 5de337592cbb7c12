use Rattle.std.proofs.Common.{◌≡◌, ◌∙◌, ◌∷◌, [], ◌++◌, ◌+◌, ◌<◌, if◌then◌else◌, ℕ, Bool, List, Vec, String, Global, Bor, string_bytes, get_or, length, drop, map, ap, sym, refl}
use Rattle.std.proofs.lemmas.List.{at_drop_more}
use Rattle.command_line.specs.declared.reading.Role.{Role}
use Rattle.command_line.specs.Requests.{role_after, is_file, files_from}
use Rattle.command_line.proofs.reading.files_of.Goals as goal
use Rattle.command_line.proofs.reading.files_of.Goals.{then-is_file+in_ok-push, else-is_file}

-- the files of what is left are its first word, where that is one, and those of the rest
step : (role : Role) (words : List (String Global)) (i : ℕ) (word : String Global) (text : List ℕ) (found : Bool) →
    i < length words → word ≡ get_or words i word → text ≡ string_bytes word → found ≡ is_file role text →
    files_from role (drop i words)
    ≡ (if found then text ∷ files_from (role_after role text) (drop (i + 1) words) else files_from (role_after role text) (drop (i + 1) words))
step role words i word text found inside read says is = at_drop_more (files_from role) words i word inside
    ∙ ap (λ (x : String Global). files_from role (x ∷ drop (i + 1) words)) (sym read)
    ∙ ap (λ (t : List ℕ). if is_file role t then t ∷ files_from (role_after role t) (drop (i + 1) words) else files_from (role_after role t) (drop (i + 1) words)) (sym says)
    ∙ ap (λ (b : Bool). if b then text ∷ files_from (role_after role text) (drop (i + 1) words) else files_from (role_after role text) (drop (i + 1) words)) (sym is)

-- a file more among those that were found is one less to come
taken : (files : List (Bor (List ℕ))) (file : Bor (List ℕ)) (rest : List (List ℕ)) →
    map (λ (f : Bor (List ℕ)). f.now) (files ++ file ∷ []) ++ rest ≡ map (λ (f : Bor (List ℕ)). f.now) files ++ file.now ∷ rest
taken [] file rest = refl
taken (x ∷ files) file rest = ap (λ (ys : List (List ℕ)). x.now ∷ ys) (taken files file rest)

pub loop-word-preserved : goal.loop-word-preserved
loop-word-preserved c =
    let words = c.args.words.now in
    let i = c.loop-word.word-index in
    let text = c.as_str-text.result.now in
    let role = c.loop-word.role in
    let rest = files_from (role_after role text) (drop (i + 1) words) in
    let old = c.loop-word.files.items in
    let texts : List (Bor (List ℕ)) → List (List ℕ) = map (λ (f : Bor (List ℕ)). f.now) in
    let more = step role words i c.word-item.result text c.is_file.result c.loop-word-test.true c.word-item.is c.as_str-text.ensures.value c.is_file.ensures in
    let next = ap (λ (p : Role). files_from p (drop (i + 1) words)) c.role_after-role.ensures in
    elim c.if-is_file.branch [
      | then-is_file+in_ok-push w ↦
          ap (λ (r : List (List ℕ)). texts c.if-is_file.files.items ++ r) next
          ∙ ap (λ (v : Vec (Bor (List ℕ)) Global). texts v.items ++ rest) w.files-is
          ∙ ap (λ (fs : List (Bor (List ℕ))). texts fs ++ rest) w.in_ok-push.ensures.items
          ∙ taken old c.as_str-text.result rest
          ∙ ap (λ (b : Bool). texts old ++ (if b then text ∷ rest else rest)) (sym w.if-is_file.true)
          ∙ ap (λ (r : List (List ℕ)). texts old ++ r) (sym more) ∙ c.loop-word.invariant
      | else-is_file w ↦
          ap (λ (r : List (List ℕ)). texts c.if-is_file.files.items ++ r) next
          ∙ ap (λ (v : Vec (Bor (List ℕ)) Global). texts v.items ++ rest) w.files-is
          ∙ ap (λ (b : Bool). texts old ++ (if b then text ∷ rest else rest)) (sym w.if-is_file.false)
          ∙ ap (λ (r : List (List ℕ)). texts old ++ r) (sym more) ∙ c.loop-word.invariant
    ]
