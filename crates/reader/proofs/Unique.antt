-- No two lists are the transfers of the same samples. Assumes nothing.
use Rattle.std.proofs.Common.{◌≡◌, ℕ, zero, suc, ◌+◌, ◌-◌, ◌<◌, ◌≤◌, Bool, ◌&&◌, List, [], length, Some, None, Option, sym, ap, ◌∙◌, subst, inl, inr, arith}
use Rattle.std.proofs.lemmas.Bool.{cases_lt, cases_eq}
use Rattle.std.proofs.lemmas.List.{ext_get_or}
use Rattle.board.specs.Wires.{Edge, Transfer as Open, transfer}
use Rattle.reader.specs.declared.transfer.Transfer.{Transfer}
use Rattle.reader.specs.Transfers.{address_of, is_stop, Shows, IsTransfer, no_transfer, at, Reads}

abbrev the : Option Open → Open
the None = transfer [] []
the (Some t) = t

abbrev made : ℕ → ℕ → ℕ → ℕ → Bool → Transfer
made f l a k c = record { first = f; last = l; address = a; ninths = k; clean = c }

module _ (edges : ℕ → Edge) (opens : ℕ → Option Open) (cleans : ℕ → Bool) (n : ℕ) where
  abbrev Is : Transfer → Type 0
  Is r = IsTransfer edges opens cleans n r

  -- two transfers with the same first sample have the same last one
  not_before : (r s : Transfer) → Is r → Is s → r.first ≡ s.first → r.last < s.last → ⊥
  not_before r s p q e lt = elim p.ends [
    | inl c ↦ (let later = c.later in q.between r.last (omega arith) lt c.bounds)
    | inr o ↦ (let end = o.at_end in let within = q.within in omega arith)
  ]

  same_last : (r s : Transfer) → Is r → Is s → r.first ≡ s.first → r.last ≡ s.last
  same_last r s p q e = elim (cases_lt r.last s.last) [
    | inl lt ↦ absurd (not_before r s p q e lt)
    | inr ge ↦ elim (cases_eq r.last s.last) [
      | inl same ↦ same
      | inr d ↦ absurd (not_before s r q p (sym e) (let z : r.last ≡ s.last → ⊥ = d in omega arith))
    ]
  ]

  record_same : (r s : Transfer) → r.first ≡ s.first → r.last ≡ s.last → r.address ≡ s.address → r.ninths ≡ s.ninths → r.clean ≡ s.clean → r ≡ s
  record_same r s a b c d e =
      ap (λ x. made x r.last r.address r.ninths r.clean) a
      ∙ ap (λ x. made s.first x r.address r.ninths r.clean) b
      ∙ ap (λ x. made s.first s.last x r.ninths r.clean) c
      ∙ ap (λ x. made s.first s.last s.address x r.clean) d
      ∙ ap (λ x. made s.first s.last s.address s.ninths x) e

  same_numbers : (r s : Transfer) (t u : Open) → Some t ≡ Some u → Shows r t → Shows s u → (r.address ≡ s.address) × (r.ninths ≡ s.ninths)
  same_numbers r s t u e p q =
      let z : t ≡ u = ap the e in
      (p.0 ∙ ap address_of z ∙ sym q.0, p.1 ∙ ap (λ v. length v.bytes) z ∙ sym q.1)

  same_record : (r s : Transfer) → Is r → Is s → r.first ≡ s.first → r ≡ s
  same_record r s p q e =
      let l = same_last r s p q e in
      elim p.ends [
        | inl c ↦ elim q.ends [
          | inl d ↦ (
              let o : Some c.t ≡ Some d.t = sym c.opened ∙ ap opens l ∙ d.opened in
              let m = same_numbers r s c.t d.t o c.shows d.shows in
              record_same r s e l m.0 m.1 (c.clean ∙ ap (λ v. is_stop (edges v) && cleans v) l ∙ sym d.clean))
          | inr d ↦ absurd (let later = c.later in let within = p.within in d.on r.last (omega arith) within c.bounds)
        ]
        | inr c ↦ elim q.ends [
          | inl d ↦ absurd (let later = d.later in let within = q.within in c.on s.last (omega arith) within d.bounds)
          | inr d ↦ (
              let o : Some c.t ≡ Some d.t = sym c.opened ∙ d.opened in
              let m = same_numbers r s c.t d.t o c.shows d.shows in
              record_same r s e l m.0 m.1 (c.clean ∙ sym d.clean))
        ]
      ]

  -- the firsts rise over any distance
  far : (a : List Transfer) → Reads edges opens cleans n a → (d i : ℕ) → suc (d + i) < length a → (at a i).first < (at a (suc (d + i))).first
  far a p zero i h = let z : suc (0 + i) ≡ suc i = omega arith in subst (λ j. (at a i).first < (at a j).first) (sym z) (p.rising i (omega arith))
  far a p (suc d) i h =
      let one = far a p d i (omega arith) in
      let two = p.rising (suc (d + i)) (omega arith) in
      let z : suc (suc (d + i)) ≡ suc (suc d + i) = omega arith in
      subst (λ j. (at a i).first < (at a j).first) z (omega arith)

  above : (a : List Transfer) → Reads edges opens cleans n a → (i j : ℕ) → i < j → j < length a → (at a i).first < (at a j).first
  above a p i j lt h =
      let z : suc ((j - suc i) + i) ≡ j = omega arith in
      subst (λ m. (at a i).first < (at a m).first) z (far a p (j - suc i) i (omega arith))

  not_above : (a : List Transfer) → Reads edges opens cleans n a → (i j : ℕ) → i ≤ j → j < length a → (at a i).first ≤ (at a j).first
  not_above a p i j le h = elim (cases_eq i j) [
    | inl e ↦ subst (λ m. (at a i).first ≤ (at a m).first) e (omega arith)
    | inr d ↦ (let z : i ≡ j → ⊥ = d in let lt = above a p i j (omega arith) h in omega arith)
  ]

  -- where all before place m have the same firsts, the one at m begins no later
  no_later : (a b : List Transfer) → Reads edges opens cleans n a → Reads edges opens cleans n b → (m : ℕ) → ((k : ℕ) → k < m → (at a k).first ≡ (at b k).first)
      → m < length a → m < length b → (at b m).first ≤ (at a m).first
  no_later a b p q m before ha hb =
      let r = p.each m ha in
      let f = q.all (at a m).first (let o = r.order in let w = r.within in omega arith) r.starts in
      elim (cases_lt f.0 m) [
        | inl lt ↦ absurd (let e = before f.0 lt in let up = above a p f.0 m lt ha in let g = f.1.1 in omega arith)
        | inr ge ↦ (let le = not_above b q m f.0 ge f.1.0 in let g = f.1.1 in omega arith)
      ]

  firsts : (a b : List Transfer) → Reads edges opens cleans n a → Reads edges opens cleans n b → (m k : ℕ) → k < m → k < length a → k < length b → (at a k).first ≡ (at b k).first
  firsts a b p q zero k lt ha hb = absurd (omega arith)
  firsts a b p q (suc m) k lt ha hb = elim (cases_lt k m) [
    | inl less ↦ firsts a b p q m k less ha hb
    | inr ge ↦ (
        let z : k ≡ m = omega arith in
        let below : (i : ℕ) → i < k → (at a i).first ≡ (at b i).first = λ i less. firsts a b p q m i (omega arith) (omega arith) (omega arith) in
        let one = no_later a b p q k below ha hb in
        let two = no_later b a q p k (λ i less. sym (below i less)) hb ha in
        omega arith)
  ]

  not_shorter : (a b : List Transfer) → Reads edges opens cleans n a → Reads edges opens cleans n b → length a < length b → ⊥
  not_shorter a b p q lt =
      let k = length a in
      let r = q.each k lt in
      let f = p.all (at b k).first (let o = r.order in let w = r.within in omega arith) r.starts in
      let less = f.1.0 in
      let e = firsts a b p q k f.0 less less (omega arith) in
      let up = above b q f.0 k less lt in
      let g = f.1.1 in
      omega arith

  pub unique : (a b : List Transfer) → Reads edges opens cleans n a → Reads edges opens cleans n b → a ≡ b
  unique a b p q =
      let long : length a ≡ length b = elim (cases_lt (length a) (length b)) [
        | inl lt ↦ absurd (not_shorter a b p q lt)
        | inr ge ↦ elim (cases_lt (length b) (length a)) [ inl lt ↦ absurd (not_shorter b a q p lt) | inr le ↦ omega arith ]
      ] in
      ext_get_or no_transfer a b long (λ i h. same_record (at a i) (at b i) (p.each i h) (q.each i (omega arith)) (firsts a b p q (suc i) i (omega arith) h (omega arith)))
