-- The rows that grow with a recording are its transfers, after each sample. Assumes nothing.
use Rattle.std.proofs.Common.{◌≡◌, ℕ, zero, suc, ◌<◌, ◌≤◌, Bool, false, not, ◌&&◌, ◌⊎◌, List, [], ◌∷◌, ◌++◌, length, Some, None, Option, refl, sym, ap, ◌∙◌, subst, inl, inr, arith, lt-suc_self}
use Rattle.std.proofs.Math.Nat.{eq-or-lt_of_le}
use Rattle.std.proofs.lemmas.Bool.{cases_lt}
use Rattle.std.proofs.lemmas.List.{length-append, get_or_append_left, get_or_at}
use Rattle.board.specs.Wires.{Edge, steady, started, stopped, rose, fell, Transfer as Open, transfer, next, risen}
use Rattle.reader.specs.declared.transfer.Transfer.{Transfer}
use Rattle.reader.specs.Read.{transfers, Exactly}
use Rattle.reader.specs.Recording.{sda_after, edge_at, open_after, clean_at}
use Rattle.reader.specs.Transfers.{is_stop, Bounds, Shows, IsTransfer, no_transfer, at, Reads}
use Rattle.reader.specs.Reading.{opened as new_row, prolonged, ended, with_last, grown, rows_after, clean_shown}
use Rattle.reader.proofs.Rises.{clean_told}
use Rattle.reader.proofs.Unique.{unique}

-- rows with one more at their end
longer : (rows : List Transfer) (r : Transfer) → length (rows ++ (r ∷ [])) ≡ suc (length rows)
longer rows r = omega (arith, length-append rows (r ∷ []))

at_old : (rows : List Transfer) (r : Transfer) (i : ℕ) → i < length rows → at (rows ++ (r ∷ [])) i ≡ at rows i
at_old rows r i lt = get_or_append_left rows (r ∷ []) no_transfer i lt

at_new : (rows : List Transfer) (r : Transfer) (i : ℕ) → i ≡ length rows → at (rows ++ (r ∷ [])) i ≡ r
at_new rows r i e = get_or_at rows r [] no_transfer i (sym e)

pub with_last_more : (f : Transfer → Transfer) (rows : List Transfer) (r : Transfer) → with_last f (rows ++ (r ∷ [])) ≡ rows ++ (f r ∷ [])
with_last_more f [] r = refl
with_last_more f (x ∷ []) r = refl
with_last_more f (x ∷ (y ∷ rows)) r = ap (λ z. x ∷ z) (with_last_more f (y ∷ rows) r)

old_or_new : (rows : List Transfer) (r : Transfer) (i : ℕ) → i < length (rows ++ (r ∷ [])) → (i ≡ length rows) ⊎ (i < length rows)
old_or_new rows r i lt = eq-or-lt_of_le (omega (arith, lt, longer rows r))

each_more : (P : Transfer → Type 0) (rows : List Transfer) (r : Transfer) → ((i : ℕ) → i < length rows → P (at rows i)) → P r → (i : ℕ) → i < length (rows ++ (r ∷ [])) → P (at (rows ++ (r ∷ [])) i)
each_more P rows r h p i lt = elim (old_or_new rows r i lt) [
  | inl e ↦ subst P (sym (at_new rows r i e)) p
  | inr less ↦ subst P (sym (at_old rows r i less)) (h i less)
]

abbrev Rising : List Transfer → Type 0
Rising rows = (i : ℕ) → suc i < length rows → (at rows i).first < (at rows (suc i)).first

rising_more : (rows : List Transfer) (r : Transfer) → Rising rows → ((i : ℕ) → i < length rows → (at rows i).first < r.first) → Rising (rows ++ (r ∷ []))
rising_more rows r h less i lt =
    let small : i < length rows = omega (arith, lt, longer rows r) in
    rw (at_old rows r i small) (elim (old_or_new rows r (suc i) lt) [
      | inl e ↦ rw (at_new rows r (suc i) e) (less i small)
      | inr more ↦ rw (at_old rows r (suc i) more) (h i more)
    ])

abbrev Found : List Transfer → ℕ → Type 0
Found rows j = (i : ℕ) × ((i < length rows) × ((at rows i).first ≡ j))

found_old : (rows : List Transfer) (r : Transfer) (j : ℕ) → Found rows j → Found (rows ++ (r ∷ [])) j
found_old rows r j f = (f.0, (omega (arith, f.1.0, longer rows r), ap (λ z. z.first) (at_old rows r f.0 f.1.0) ∙ f.1.1))

found_new : (rows : List Transfer) (r : Transfer) (j : ℕ) → r.first ≡ j → Found (rows ++ (r ∷ [])) j
found_new rows r j e = (length rows, (omega (arith, longer rows r), ap (λ z. z.first) (at_new rows r (length rows) refl) ∙ e))

-- edges that neither begin nor end a transfer
abbrev tag : Edge → ℕ
tag steady = 0
tag started = 1
tag stopped = 2
tag (rose bit) = 0
tag fell = 0

unbound : (e : Edge) → tag e ≡ 0 → Bounds e → ⊥
unbound e z (inl s) = let q : 0 ≡ 1 = sym z ∙ ap tag s in omega (arith, q)
unbound e z (inr s) = let q : 0 ≡ 2 = sym z ∙ ap tag s in omega (arith, q)

stop_start : (e : Edge) → e ≡ stopped → e ≡ started → ⊥
stop_start e s t = let q : 2 ≡ 1 = ap tag (sym s ∙ t) in omega (arith, q)

module _ (edges : ℕ → Edge) (opens : ℕ → Option Open) (cleans : ℕ → Bool) (judged : (n : ℕ) (t : Open) → opens n ≡ Some t → clean_shown t ≡ cleans n) where
  -- a transfer that has ended
  record Past (r : Transfer) : Type 0 where
    starts : edges r.first ≡ started
    later : r.first < r.last
    between : (j : ℕ) → r.first < j → j < r.last → Bounds (edges j) → ⊥
    bounds : Bounds (edges r.last)
    t : Open
    its : opens r.last ≡ Some t
    shows : Shows r t
    clean : r.clean ≡ (is_stop (edges r.last) && cleans r.last)

  -- these end before sample k, and are all that start before sample m
  record Kept (m k : ℕ) (rows : List Transfer) : Type 0 where
    each : (i : ℕ) → i < length rows → Past (at rows i) × ((at rows i).last < k)
    rising : Rising rows
    all : (j : ℕ) → j < m → edges j ≡ started → Found rows j

  kept_none : Kept zero zero []
  kept_none = record {
    each = λ i lt. absurd (omega (arith, lt));
    rising = λ i lt. absurd (omega (arith, lt));
    all = λ j lt s. absurd (omega (arith, lt));
  }

  kept_later : (m k l : ℕ) (rows : List Transfer) → k ≤ l → Kept m k rows → Kept m l rows
  kept_later m k l rows le h = record {
    each = λ i lt. (let e = h.each i lt in (e.0, omega (arith, le, e.1)));
    rising = h.rising;
    all = h.all;
  }

  -- the rows after n samples: no transfer is open, or the last row is that of the open one
  record Quiet (n : ℕ) (rows : List Transfer) : Type 0 where
    none : opens n ≡ None
    kept : Kept n n rows

  record Under (n : ℕ) (rows : List Transfer) : Type 0 where
    done : List Transfer
    r : Transfer
    is : rows ≡ done ++ (r ∷ [])
    kept : Kept r.first (suc r.first) done
    starts : edges r.first ≡ started
    order : r.first ≤ r.last
    at_end : suc r.last ≡ n
    on : (j : ℕ) → r.first < j → j < n → Bounds (edges j) → ⊥
    t : Open
    its : opens n ≡ Some t
    shows : Shows r t
    clean : r.clean ≡ false

  abbrev Tale : ℕ → List Transfer → Type 0
  Tale n rows = Quiet n rows ⊎ Under n rows

  kept_more : (m k : ℕ) (rows : List Transfer) (r : Transfer) → Kept r.first (suc r.first) rows → Past r → r.last < k
      → ((j : ℕ) → r.first < j → j < m → edges j ≡ started → ⊥) → Kept m k (rows ++ (r ∷ []))
  kept_more m k rows r h p within rest = record {
    each = each_more (λ x. Past x × (x.last < k)) rows r (λ i lt. (let e = h.each i lt in let later = p.later in (e.0, omega (arith, e.1, within, later)))) (p, within);
    rising = rising_more rows r h.rising (λ i lt. (let e = h.each i lt in let later = e.0.later in omega (arith, e.1, later)));
    all = λ j lt s. elim (cases_lt j r.first) [
      | inl before ↦ found_old rows r j (h.all j before s)
      | inr le ↦ elim (eq-or-lt_of_le le) [
        | inl e ↦ found_new rows r j e
        | inr more ↦ absurd (rest j more lt s)
      ]
    ];
  }

  -- a sample that begins no transfer where none is open
  calm_quiet : (n : ℕ) (rows : List Transfer) → (edges n ≡ started → ⊥) → opens (suc n) ≡ None → Quiet n rows → Quiet (suc n) rows
  calm_quiet n rows b o q = record {
    none = o;
    kept = record {
      each = (kept_later n n (suc n) rows (omega arith) q.kept).each;
      rising = q.kept.rising;
      all = λ j lt s. elim (cases_lt j n) [
        | inl before ↦ q.kept.all j before s
        | inr le ↦ (let e : j ≡ n = omega (arith, lt, le) in absurd (b (ap edges (sym e) ∙ s)))
      ];
    };
  }

  -- a START, where the rows before it are kept
  begun : (n : ℕ) (rows : List Transfer) → edges n ≡ started → opens (suc n) ≡ Some (transfer [] []) → Kept n (suc n) rows → Under (suc n) (rows ++ (new_row n ∷ []))
  begun n rows e o k = record {
    done = rows;
    r = new_row n;
    is = refl;
    kept = k;
    starts = e;
    order = omega arith;
    at_end = refl;
    on = λ j more lt. absurd (omega (arith, more, lt));
    t = transfer [] [];
    its = o;
    shows = (refl, refl);
    clean = refl;
  }

  quiet_step : (n : ℕ) (rows : List Transfer) (e : Edge) (pulled : Bool) → edges n ≡ e → opens (suc n) ≡ next e pulled None → Quiet n rows → Tale (suc n) (grown e n None (opens (suc n)) rows)
  quiet_step n rows steady pulled e o q = inl (calm_quiet n rows (λ s. unbound _ (ap tag e) (inl s)) o q)
  quiet_step n rows started pulled e o q = inr (begun n rows e o (kept_later n n (suc n) rows (omega arith) q.kept))
  quiet_step n rows stopped pulled e o q = inl (calm_quiet n rows (stop_start _ e) o q)
  quiet_step n rows (rose bit) pulled e o q = inl (calm_quiet n rows (λ s. unbound _ (ap tag e) (inl s)) o q)
  quiet_step n rows fell pulled e o q = inl (calm_quiet n rows (λ s. unbound _ (ap tag e) (inl s)) o q)

  -- the last row prolonged, while its transfer is open
  calm_under : (n : ℕ) (rows : List Transfer) (u : Open) → (Bounds (edges n) → ⊥) → opens (suc n) ≡ Some u → Under n rows → Under (suc n) (with_last (prolonged n u) rows)
  calm_under n rows u b o h =
      let r = h.r in
      let order = h.order in
      let at_end = h.at_end in
      record {
        done = h.done;
        r = prolonged n u r;
        is = ap (with_last (prolonged n u)) h.is ∙ with_last_more (prolonged n u) h.done r;
        kept = h.kept;
        starts = h.starts;
        order = omega (arith, order, at_end);
        at_end = refl;
        on = λ j more lt. elim (cases_lt j n) [
          | inl before ↦ h.on j more before
          | inr le ↦ (let e : j ≡ n = omega (arith, lt, le) in subst (λ z. Bounds (edges z) → ⊥) (sym e) b)
        ];
        t = u;
        its = o;
        shows = (refl, refl);
        clean = refl;
      }

  -- or ended by a START or a STOP
  past_under : (n : ℕ) (rows : List Transfer) (c : Bool) (h : Under n rows) → Bounds (edges n) → c ≡ (is_stop (edges n) && cleans n) → Past (ended n c h.r)
  past_under n rows c h b e =
      let order = h.order in
      let at_end = h.at_end in
      record {
        starts = h.starts;
        later = omega (arith, order, at_end);
        between = h.on;
        bounds = b;
        t = h.t;
        its = h.its;
        shows = h.shows;
        clean = e;
      }

  kept_under : (m n : ℕ) (rows : List Transfer) (c : Bool) (h : Under n rows) → Past (ended n c h.r) → m ≤ suc n → (edges n ≡ started → m ≤ n) → Kept m (suc n) (h.done ++ (ended n c h.r ∷ []))
  kept_under m n rows c h p few last = kept_more m (suc n) h.done (ended n c h.r) h.kept p (lt-suc_self n) (λ j more lt s. elim (cases_lt j n) [
    | inl before ↦ h.on j more before (inl s)
    | inr le ↦ (let e : j ≡ n = omega (arith, lt, few, le) in let none = last (ap edges (sym e) ∙ s) in omega (arith, none, lt, e))
  ])

  with_last_under : (n : ℕ) (rows : List Transfer) (f : Transfer → Transfer) (h : Under n rows) → with_last f rows ≡ h.done ++ (f h.r ∷ [])
  with_last_under n rows f h = ap (with_last f) h.is ∙ with_last_more f h.done h.r

  started_under : (n : ℕ) (rows : List Transfer) → edges n ≡ started → opens (suc n) ≡ Some (transfer [] []) → Under n rows → Under (suc n) (with_last (ended n false) rows ++ (new_row n ∷ []))
  started_under n rows e o h =
      let p = past_under n rows false h (inl e) (rw e refl) in
      let k = kept_under n n rows false h p (omega arith) (λ s. omega arith) in
      begun n _ e o (subst (Kept n (suc n)) (sym (with_last_under n rows (ended n false) h)) k)

  stopped_under : (n : ℕ) (rows : List Transfer) (c : Bool) (h : Under n rows) → edges n ≡ stopped → opens (suc n) ≡ None → c ≡ cleans n → Quiet (suc n) (with_last (ended n c) rows)
  stopped_under n rows c h e o is =
      let p = past_under n rows c h (inr e) (rw e is) in
      let k = kept_under (suc n) n rows c h p (omega arith) (λ s. absurd (stop_start _ e s)) in
      record { none = o; kept = subst (Kept (suc n) (suc n)) (sym (with_last_under n rows (ended n c) h)) k }

  under_step : (n : ℕ) (rows : List Transfer) (e : Edge) (pulled : Bool) (t : Open) (h : Under n rows) → t ≡ h.t → edges n ≡ e
      → opens (suc n) ≡ next e pulled (Some t) → Tale (suc n) (grown e n (Some t) (opens (suc n)) rows)
  under_step n rows steady pulled t h same e o = rw o (inr (calm_under n rows t (unbound _ (ap tag e)) o h))
  under_step n rows started pulled t h same e o = inr (started_under n rows e o h)
  under_step n rows stopped pulled t h same e o = inl (stopped_under n rows (clean_shown t) h e o (ap clean_shown same ∙ judged n h.t h.its))
  under_step n rows (rose bit) pulled t h same e o = rw o (inr (calm_under n rows (risen bit pulled t) (unbound _ (ap tag e)) o h))
  under_step n rows fell pulled t h same e o = rw o (inr (calm_under n rows t (unbound _ (ap tag e)) o h))

  step : (n : ℕ) (rows : List Transfer) (pulled : Bool) → opens (suc n) ≡ next (edges n) pulled (opens n) → Tale n rows → Tale (suc n) (grown (edges n) n (opens n) (opens (suc n)) rows)
  step n rows pulled o (inl q) = rw q.none (quiet_step n rows (edges n) pulled refl (o ∙ ap (next (edges n) pulled) q.none) q)
  step n rows pulled o (inr h) = rw h.its (under_step n rows (edges n) pulled h.t h refl refl (o ∙ ap (next (edges n) pulled) h.its))

  -- what the rows so kept are
  past_is : (n : ℕ) (r : Transfer) → Past r → r.last < n → IsTransfer edges opens cleans n r
  past_is n r p within =
      let later = p.later in
      record {
        starts = p.starts;
        order = omega (arith, later);
        within = within;
        between = p.between;
        ends = inl (record { later = later; bounds = p.bounds; t = p.t; opened = p.its; shows = p.shows; clean = p.clean });
      }

  under_is : (n : ℕ) (rows : List Transfer) (h : Under n rows) → IsTransfer edges opens cleans n h.r
  under_is n rows h =
      let order = h.order in
      let at_end = h.at_end in
      record {
        starts = h.starts;
        order = order;
        within = omega (arith, at_end);
        between = λ j more lt. h.on j more (omega (arith, lt, at_end));
        ends = inr (record { at_end = at_end; on = h.on; t = h.t; opened = h.its; shows = h.shows; clean = h.clean });
      }

  told : (n : ℕ) (rows : List Transfer) → Tale n rows → Reads edges opens cleans n rows
  told n rows (inl q) = record {
    each = λ i lt. (let e = q.kept.each i lt in past_is n (at rows i) e.0 e.1);
    rising = q.kept.rising;
    all = q.kept.all;
  }
  told n rows (inr h) =
      let k = h.kept in
      let r = h.r in
      let order = h.order in
      let at_end = h.at_end in
      subst (Reads edges opens cleans n) (sym h.is) (record {
        each = each_more (IsTransfer edges opens cleans n) h.done r (λ i lt. (let e = k.each i lt in past_is n (at h.done i) e.0 (omega (arith, e.1, order, at_end)))) (under_is n rows h);
        rising = rising_more h.done r k.rising (λ i lt. (let e = k.each i lt in let later = e.0.later in omega (arith, e.1, later)));
        all = λ j lt s. elim (cases_lt j r.first) [
          | inl before ↦ found_old h.done r j (k.all j before s)
          | inr le ↦ elim (eq-or-lt_of_le le) [
            | inl e ↦ found_new h.done r j e
            | inr more ↦ absurd (h.on j more lt (inl s))
          ]
        ];
      })

  -- rows that grow with each sample, where the open transfer begins with none and goes on by the edges
  module _ (pulled : ℕ → Bool) (rows : ℕ → List Transfer) (from : opens zero ≡ None) (onward : (n : ℕ) → opens (suc n) ≡ next (edges n) (pulled n) (opens n)) (first : rows zero ≡ [])
      (grows : (n : ℕ) → rows (suc n) ≡ grown (edges n) n (opens n) (opens (suc n)) (rows n)) where
    tale : (n : ℕ) → Tale n (rows n)
    tale zero = inl (record { none = from; kept = rw first kept_none })
    tale (suc n) = subst (Tale (suc n)) (sym (grows n)) (step n (rows n) (pulled n) (onward n) (tale n))

    pub grown_reads : (n : ℕ) → Reads edges opens cleans n (rows n)
    grown_reads n = told n (rows n) (tale n)

pub reads : (xs : List ℕ) (n : ℕ) → Reads (edge_at xs) (open_after xs) (clean_at xs) n (rows_after xs n)
reads xs n = grown_reads (edge_at xs) (open_after xs) (clean_at xs) (clean_told xs) (λ j. not (sda_after xs (suc j))) (rows_after xs) refl (λ j. refl) refl (λ j. refl) n

pub exactly : (xs : List ℕ) → Exactly xs (transfers xs)
unfolding Exactly
exactly xs = let here = reads xs (length xs) in (here, λ others there. unique (edge_at xs) (open_after xs) (clean_at xs) (length xs) others (transfers xs) there here)
