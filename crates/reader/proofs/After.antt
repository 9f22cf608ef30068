-- The reader and its rows after some samples of a recording, and after one more.
use Rattle.std.proofs.Common.{◌≡◌, ℕ, zero, suc, ◌+◌, ◌^◌, ◌<◌, ◌≤◌, Bool, true, false, List, [], ◌∷◌, length, get_or, Some, None, Option, option_map, sym, refl, ap, ◌∙◌, arith, add-zero, add-suc, subst, ◌-◌}
use Rattle.std.proofs.lemmas.List.{length_push}
use Rattle.rows.specs.declared.row.Row.{Row}
use Rattle.rows.specs.Rows.{items_of}
use Rattle.rows.proofs.Growing.{length_grown as row_length}
use Rattle.board.specs.Samples.{bit_value}
use Rattle.board.specs.Wires.{Edge, steady, started, stopped, rose, fell, edge, Transfer as Open}
use Rattle.reader.specs.declared.transfer.Transfer.{Transfer}
use Rattle.reader.specs.declared.wires.Edge.{Edge as Seen}
use Rattle.reader.specs.declared.wires.Wires.{Wires}
use Rattle.reader.specs.Kept.{kept_of, kept_next, edge_of, starts, AllSmall}
use Rattle.reader.specs.Read.{transfers}
use Rattle.reader.specs.Steps.{seen, reader_after, stepped, Stands}
use Rattle.reader.specs.Reading.{opened, prolonged, ended, with_last, going_on, ending, grown, rows_after, clean_shown}
use Rattle.reader.specs.Recording.{scl_after, sda_after, edge_at, open_after}
use Rattle.reader.proofs.Keeping.{next_kept, few, few_none, few_next, small_kept}

-- the two wires after n samples
abbrev pub wires_after : List ℕ → ℕ → Wires
wires_after xs n = record { scl = scl_after xs n; sda = sda_after xs n }

-- what the next sample shows, and what the reader keeps then
pub seen_at : (xs : List ℕ) (n : ℕ) → seen (get_or xs n 0) (reader_after xs n) ≡ edge_at xs n
seen_at xs zero = refl
seen_at xs (suc n) = refl

pub reader_more : (xs : List ℕ) (n : ℕ) → stepped (get_or xs n 0) (reader_after xs n) ≡ reader_after xs (suc n)
reader_more xs n =
    ap (λ o. record { sample = get_or xs n 0; opened = o }) (ap (λ e. kept_next e (option_map kept_of (open_after xs n))) (seen_at xs n)
    ∙ next_kept (scl_after xs n) (scl_after xs (suc n)) (sda_after xs n) (sda_after xs (suc n)) (open_after xs n))

-- each START adds a record, and nothing else does
length_last : (f : Transfer → Transfer) (rows : List Transfer) → length (with_last f rows) ≡ length rows
length_last f [] = refl
length_last f (r ∷ []) = refl
length_last f (r ∷ (s ∷ rows)) = ap suc (length_last f (s ∷ rows))

length_on : (n : ℕ) (o u : Option Open) (rows : List Transfer) → length (going_on n o u rows) ≡ length rows + 0
length_on n None u rows = sym (add-zero _)
length_on n (Some t) None rows = sym (add-zero _)
length_on n (Some t) (Some u) rows = length_last (prolonged n u) rows ∙ sym (add-zero _)

length_end : (n : ℕ) (o : Option Open) (clean : Open → Bool) (rows : List Transfer) → length (ending n o clean rows) ≡ length rows
length_end n None clean rows = refl
length_end n (Some t) clean rows = length_last (ended n (clean t)) rows

pub length_grown : (e : Edge) (n : ℕ) (o u : Option Open) (rows : List Transfer) → length (grown e n o u rows) ≡ length rows + bit_value (starts e)
length_grown steady n o u rows = length_on n o u rows
length_grown started n o u rows = length_push (ending n o (λ t. false) rows) (opened n) ∙ ap (λ m. m + 1) (length_end n o (λ t. false) rows)
length_grown stopped n o u rows = length_end n o clean_shown rows ∙ sym (add-zero _)
length_grown (rose bit) n o u rows = length_on n o u rows
length_grown fell n o u rows = length_on n o u rows

pub one_more : (xs : List ℕ) (n : ℕ) → length (rows_after xs (suc n)) ≡ length (rows_after xs n) + bit_value (starts (edge_at xs n))
one_more xs n = length_grown (edge_at xs n) n (open_after xs n) (open_after xs (suc n)) (rows_after xs n)

bit_small : (b : Bool) → bit_value b ≤ 1
bit_small true = omega arith
bit_small false = omega arith

pub few_rows : (xs : List ℕ) (n : ℕ) → length (rows_after xs n) ≤ n
few_rows xs zero = omega arith
few_rows xs (suc n) = omega (arith, one_more xs n, bit_small (starts (edge_at xs n)), few_rows xs n)

pub more_rows : (xs : List ℕ) (n k : ℕ) → length (rows_after xs n) ≤ length (rows_after xs (n + k))
more_rows xs n zero = rw (add-zero n) (omega arith)
more_rows xs n (suc k) = rw (add-suc n k) (omega (arith, one_more xs (n + k), more_rows xs n k))

pub rows_up : (xs : List ℕ) (n m : ℕ) → n ≤ m → length (rows_after xs n) ≤ length (rows_after xs m)
rows_up xs n m h = subst (λ k. length (rows_after xs n) ≤ length (rows_after xs k)) (omega (arith, h)) (more_rows xs n (m - n))

-- counting them
pub started_at : (xs : List ℕ) (n : ℕ) (v w : Wires) (e : Seen) (b : Bool) → v ≡ wires_after xs n → w ≡ wires_after xs (suc n)
    → edge_of e ≡ edge v.scl w.scl v.sda w.sda → b ≡ starts (edge_of e) → starts (edge_at xs n) ≡ b
started_at xs n v w e b h k f g =
    sym (g ∙ ap starts (f ∙ ap (λ (u : Wires). edge u.scl w.scl u.sda w.sda) h ∙ ap (λ (u : Wires). edge (scl_after xs n) u.scl (sda_after xs n) u.sda) k))

pub count_more : (xs : List ℕ) (n c d : ℕ) (b : Bool) → starts (edge_at xs n) ≡ b → c ≡ length (rows_after xs n) → d ≡ c + bit_value b → d ≡ length (rows_after xs (suc n))
count_more xs n c d b e f g =
    g ∙ ap (λ m. m + bit_value b) f ∙ ap (λ s. length (rows_after xs n) + bit_value s) (sym e) ∙ sym (one_more xs n)

-- a row that takes all transfers takes the next
pub room_left : (xs : List ℕ) (n m : ℕ) (a b : Row Transfer) → n < length xs → a.count + length (transfers xs) ≤ length (items_of a)
    → Stands a m (open_after xs n) (rows_after xs n) b → starts (edge_at xs n) ≡ true → b.count < length (items_of b)
room_left xs n m a b h k s e =
    let more : length (rows_after xs (suc n)) ≡ length (rows_after xs n) + 1 = one_more xs n ∙ ap (λ s. length (rows_after xs n) + bit_value s) e in
    let many : length s.written ≡ length (rows_after xs n) = sym (length_end m (open_after xs n) (λ t. false) s.written) ∙ ap length s.reached in
    let same : length (items_of b) ≡ length (items_of a) = row_length a b s.written s.grown in
    omega (arith, more, many, same, rows_up xs (suc n) (length xs) (omega (arith, h)), s.grown.count, k)

-- the reader's numbers are small
few_after : (xs : List ℕ) (n : ℕ) → few n (open_after xs n)
few_after xs zero = few_none 0
few_after xs (suc n) = few_next (edge_at xs n) _ n (open_after xs n) (few_after xs n)

pub small_after : (xs : List ℕ) (n : ℕ) → n + 1 < 2 ^ 64 → AllSmall (option_map kept_of (open_after xs n))
small_after xs n h = small_kept n (open_after xs n) h (few_after xs n)
