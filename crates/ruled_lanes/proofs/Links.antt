-- Each step keeps the rule of a link.
use Rattle.std.proofs.Common.{◌≡◌, ◌≢◌, ℕ, true, false, true≢false, List, [], ◌∷◌, ◌++◌, length, set, sym, refl, ap, ◌∙◌, ⊎_elim, append_assoc}
use mathlib.Core.Option.{some, some-ne-none}
use lib.ListN.{get_elem?}
use Rattle.crossbeam_channel.specs.Fifo.{Pushes, Pops, Forks, Merges, Learns}
use Rattle.atomic_table.proofs.Lists.{at_set, at_snoc}
use Rattle.ruled_lanes.specs.declared.link_channel.Log.{Log}
use Rattle.ruled_lanes.specs.LinkProtocol.{log, Knows, Lossless}
use Rattle.ruled_lanes.proofs.Views.{at_end, Each, each_set}

module _ {T : Type 0} where
  pub begins : Lossless {T = T} [] (log true true [] [] ∷ [])
  begins = (
    0,
    0,
    [],
    [],
    refl,
    each_set (Knows 0 0 [] []) (log true true [] [] ∷ []) 0 (log true true [] []) ((λ _. (refl, refl)), λ _. (refl, refl))
        (λ j u other e. absurd (other (at_end [] _ u j (λ x. some-ne-none u (sym x)) e))),
  )

  pub gives : (n pass : ℕ) (v : Log T) (x : T) → v.gives ≡ true → Pushes Lossless n pass v x (λ w. w ≡ log v.gives v.takes (v.given ++ x ∷ []) v.taken)
  gives n pass v x may items views _ h at = let w : Log T = log v.gives v.takes (v.given ++ x ∷ []) v.taken in let mine = h.5 pass v at in let given = h.2 ++ x ∷ [] in (
    w,
    (
      h.0,
      h.1,
      given,
      h.3,
      sym (append_assoc h.3 items (x ∷ [])) ∙ ap (λ l. l ++ x ∷ []) h.4,
      each_set (Knows h.0 h.1 given h.3) views pass w ((λ _. ((mine.0 may).0, ap (λ l. l ++ x ∷ []) (mine.0 may).1)), mine.1)
          (λ j u other e. ((λ p. absurd (other (((h.5 j u e).0 p).0 ∙ sym (mine.0 may).0))), (h.5 j u e).1)),
    ),
    refl,
  )

  pub takes : (pass : ℕ) (v : Log T) → v.takes ≡ true → Pops Lossless pass v (λ x w. w ≡ log v.gives v.takes v.given (v.taken ++ x ∷ []))
  takes pass v may x items views h at = let w : Log T = log v.gives v.takes v.given (v.taken ++ x ∷ []) in let mine = h.5 pass v at in let taken = h.3 ++ x ∷ [] in (
    w,
    (
      h.0,
      h.1,
      h.2,
      taken,
      append_assoc h.3 (x ∷ []) items ∙ h.4,
      each_set (Knows h.0 h.1 h.2 taken) views pass w (mine.0, λ _. ((mine.1 may).0, ap (λ l. l ++ x ∷ []) (mine.1 may).1))
          (λ j u other e. ((h.5 j u e).0, λ p. absurd (other (((h.5 j u e).1 p).0 ∙ sym (mine.1 may).0)))),
    ),
    refl,
  )

  pub forks : (pass : ℕ) (v : Log T) → v.gives ≡ true → v.takes ≡ true → Forks Lossless pass v (log true false v.given []) (log false true [] v.taken)
  forks pass v a b items views h at = let l : Log T = log true false v.given [] in let r : Log T = log false true [] v.taken in let mine = h.5 pass v at in let vs : List (Log T) = set views pass l in
      let Old : ℕ → Log T → Type 0 = λ j u. (u.gives ≡ true → (j ≡ h.0) × (u.given ≡ h.2)) × (u.takes ≢ true) in
      let old : Each Old vs = each_set Old views pass l ((λ _. mine.0 a), λ p. true≢false (sym p)) (λ j u other e. ((h.5 j u e).0, λ p. other (((h.5 j u e).1 p).0 ∙ sym (mine.1 b).0))) in (
        h.0,
        length vs,
        h.2,
        h.3,
        h.4,
        λ j u e. ⊎_elim (λ x. ((old j u x).0, λ p. absurd ((old j u x).1 p)))
            (λ (is : r ≡ u). ((λ p. absurd (true≢false (sym (ap (λ (y : Log T). y.gives) is ∙ p)))), λ p. (at_end vs r u j (λ x. (old j u x).1 p) e, ap (λ (y : Log T). y.taken) (sym is) ∙ (mine.1 b).1))) (at_snoc vs r u j e),
      )

  pub merges : (pass : ℕ) (v : Log T) (other : ℕ) (u : Log T) → v.gives ≡ true → u.takes ≡ true → Merges Lossless pass v other u (log true true v.given u.taken) (log false false [] [])
  merges pass v other u a b items views h at two at' = let both : Log T = log true true v.given u.taken in let mine = h.5 pass v at in let vs : List (Log T) = set views pass both in
      let was : get_elem? views other ≡ some u = ⊎_elim (λ x. absurd (two x.0)) (λ x. x.1) (at_set views pass other both u at') in let theirs = (h.5 other u was).1 b in
      let Now : ℕ → Log T → Type 0 = λ j y. j ≢ other → Knows h.0 pass h.2 h.3 j y in
      let now : Each Now vs = each_set Now views pass both (λ _. ((λ _. mine.0 a), λ _. (refl, theirs.1))) (λ j y _ e apart. ((h.5 j y e).0, λ p. absurd (apart (((h.5 j y e).1 p).0 ∙ sym theirs.0)))) in
      (h.0, pass, h.2, h.3, h.4, each_set (Knows h.0 pass h.2 h.3) vs other (log false false [] []) ((λ p. absurd (true≢false (sym p))), λ p. absurd (true≢false (sym p))) (λ j y apart e. now j y e apart))

  pub totals : (pass : ℕ) (v : Log T) → v.gives ≡ true → v.takes ≡ true → Learns Lossless pass v (λ items. v.taken ++ items ≡ v.given)
  totals pass v a b items views h at = let mine = h.5 pass v at in ap (λ l. l ++ items) (mine.1 b).1 ∙ h.4 ∙ sym (mine.0 a).1
