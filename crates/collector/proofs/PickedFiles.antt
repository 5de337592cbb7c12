-- What is picked from a complete file without a condition is the file.
use Rattle.std.proofs.Common.{◌≡◌, ◌≢◌, inl, inr, ℕ, suc, Bool, true, Option, None, Some, List, [], ◌∷◌, ◌++◌, All, map, if◌then◌else◌, sym, refl, ap, ◌∙◌, append-nil, arith}
use Rattle.std.specs.List.{concat, flat_map}
use Rattle.planar_code.specs.declared.TheConstants.{HEADER}
use Rattle.planar_code.specs.declared.partial_record.Ending.{Ending}
use Rattle.planar_code.specs.declared.partial_record.Ending.TheVariants as ending
use Rattle.planar_code.specs.Split.{IsSplit, IsSplitAfterHeader}
use Rattle.graph_facts.specs.declared.selection.Facts.{Facts}
use Rattle.collector.specs.FactBooks.{FactEntry, FactBook}
use Rattle.graph_facts.specs.Conditions.{is_chosen, no_condition, those_meeting}
use Rattle.collector.specs.Picked.{picked_of, picked_text}

all_chosen : (facts : Option Facts) → facts ≢ None → is_chosen (those_meeting no_condition) facts ≡ true
all_chosen (Some facts) answered = refl
all_chosen None answered = absurd (answered refl)

all_picked : (entries : List FactEntry) → All (λ (entry : FactEntry). entry.facts ≢ None) entries
    → flat_map (picked_of (those_meeting no_condition)) entries ≡ concat (map (λ (entry : FactEntry). entry.about.bytes) entries)
all_picked [] answered = refl
all_picked (e ∷ es) answered =
    let one : picked_of (those_meeting no_condition) e ≡ e.about.bytes =
    ap (λ (b : Bool). if b then e.about.bytes else []) (all_chosen e.facts (answered 0 e (omega arith))) in
    let rest = all_picked es (λ k d below. answered (suc k) d (omega arith)) in
    ap (λ (l : List ℕ). l ++ flat_map (picked_of (those_meeting no_condition)) es) one ∙ ap (λ (l : List ℕ). e.about.bytes ++ l) rest

after_header : (file : List ℕ) (records : List (List ℕ)) → IsSplitAfterHeader file records ending.Complete → HEADER ++ concat records ≡ file
after_header file records split =
    let body : split.body ≡ concat records = split.divided.concatenated ∙ ap (λ (l : List ℕ). concat records ++ l) split.ends ∙ append-nil (concat records) in
    sym (split.with_header ∙ ap (λ (l : List ℕ). HEADER ++ l) body)

complete_file : (file : List ℕ) (records : List (List ℕ)) → IsSplit file records ending.Complete → HEADER ++ concat records ≡ file
complete_file file records (inl headerless) = let ends = headerless.ends in absurd (cc)
complete_file file records (inr split) = after_header file records split

pub all_of_a_file : (file : List ℕ) (records : List (List ℕ)) (book : FactBook) → IsSplit file records ending.Complete
    → map (λ (entry : FactEntry). entry.about.bytes) book.entries ≡ records → All (λ (entry : FactEntry). entry.facts ≢ None) book.entries
    → picked_text (those_meeting no_condition) (book ∷ []) ≡ file
all_of_a_file file records book split same answered =
    let picked : flat_map (picked_of (those_meeting no_condition)) book.entries ≡ concat records =
    all_picked book.entries answered ∙ ap (λ (rs : List (List ℕ)). concat rs) same in
    ap (λ (l : List ℕ). HEADER ++ l) (append-nil (flat_map (picked_of (those_meeting no_condition)) book.entries) ∙ picked) ∙ complete_file file records split
