-- What a write job stores, later jobs bring back: of a DS1846, and of memory, wipers and register of an X9520.
use Rattle.std.proofs.Common.{◌≡◌, ℕ, suc, ◌+◌, ◌/◌, ◌%◌, ◌<◌, Bool, true, false, ◌⊎◌, List, [], ◌∷◌, Some, refl, sym, ap, ◌∙◌, subst, inl, inr, arith, min, lit<}
use Rattle.refusals.specs.Told.{Told}
use Rattle.part.specs.Keeps.{Keeps}
use Rattle.part.specs.Ops.{Ops}
use Rattle.part.specs.declared.levels.Levels.{Levels}
use Rattle.part.specs.declared.power.PowerCut.{PowerCut}
use Rattle.dcp.specs.Wiper.{byte_for}
use Rattle.ds1846.specs.Chip.{ds1846, as_part as ds1846_part}
use Rattle.ds1846.specs.Keeping.{moves as ds1846_moves}
use Rattle.ds1846.specs.declared.state.Ds1846.{Ds1846}
use Rattle.x9520.specs.Chip.{x9520, as_part as x9520_part}
use Rattle.x9520.specs.Keeping.{moves as x9520_moves}
use Rattle.x9520.specs.Sound.{Sound}
use Rattle.x9520.specs.declared.state.X9520.{X9520}
use Rattle.board.specs.Engine.{idle_bus, finished, cut}
use Rattle.board.specs.declared.board.Board.{Board}
use Rattle.storage.specs.Cells.{Last, Stands}
use Rattle.controller.specs.Bytes.{AllBytes}
use Rattle.controller.specs.Jobs.{writing, write_byte}
use Rattle.controller.specs.Master.{run}
use Rattle.storage.specs.Storing.{bit, MemoryTakes, DcpTakes, RegisterTakes, NamesDcp, AtMostOne, X9520Address, BringsCells, HoldsCells, BringsTap, Accepts, AcceptsEmpty, Ds1846Stores, MemoryStores, WiperStores, RegisterStores, Enables, Stores, BringsBack, dcp_byte, taps_of, Means}
use Rattle.controller.specs.Work.{written}
use Rattle.controller.proofs.AllBytes.{no_bytes, one_byte, one_more}
use Rattle.storage.proofs.Accepting.{AcceptedIf, empty_accepted}
use Rattle.storage.proofs.Bringing.{Now, now, asked, job_kept, job_now, finish_now, cut_now, brings_now}
use Rattle.storage.proofs.Ds1846Storing.{tap_capped, ds_accepts, ds_cells, ds_reads}
use Rattle.storage.proofs.Giving.{Reads, reads_as}
use Rattle.storage.proofs.MemoryStoring.{memory_accepts, memory_cells, memory_latches, memory_wipers, memory_reads}
use Rattle.storage.proofs.Over.{over, over_ready}
use Rattle.storage.proofs.RegisterStoring.{register_takes, enabled_if, enabled_if_accepted, register_accepts, register_cell, register_others, register_wipers, register_wel, register_reads}
use Rattle.storage.proofs.Sitting.{Sits, sitting, Same, same_then, Owned}
use Rattle.storage.proofs.SoundBoard.{made_sound}
use Rattle.storage.proofs.WiperReading.{wiper_reads}
use Rattle.storage.proofs.WiperStoring.{job, dcp_accepts, wiper_accepts, wiper_moves, wiper_others, wiper_finish, wiper_returns, wiper_falls_back, wiper_holds, wiper_cells, wiper_free, wiper_wel, sound_written, sound_over, sound_cut, cut_free}

-- the bytes of a job for the register, and of an aim at it
register_bytes : (x : ℕ) → x < 256 → AllBytes (255 ∷ (x ∷ []))
register_bytes x h = one_more 255 (x ∷ []) (lit< tt) (one_byte x h)

aim_bytes : (aim : List ℕ) → (aim ≡ []) ⊎ (aim ≡ 255 ∷ []) → AllBytes aim
aim_bytes aim (inl e) = subst AllBytes (sym e) no_bytes
aim_bytes aim (inr e) = subst AllBytes (sym e) (one_byte 255 (lit< tt))

-- a cell that a read brings
brought : (page first i : ℕ) (ds : List ℕ) (old new : ℕ) → AllBytes ds → Stands page first ds i old new → Stands page first ds i (old % 256) (new % 256)
brought page first i ds old new small (inl last) =
    let h : new < 256 = subst (λ v. v < 256) last.value (small last.n) in
    let same : new ≡ new % 256 = omega (arith, h) in
    inl (subst (λ v. Last page first ds i v) same last)
brought page first i ds old new small (inr missed) = inr (missed.0, ap (λ v. v % 256) missed.1)

module _ {S : Type 0} {ops : Ops S} (b c : Board S) (answer : Told (List ℕ)) (l : Levels) (low : l.wp ≡ false) (idle_b : b.bus ≡ idle_bus) where
  -- on the board a job is accepted exactly if the chip by itself accepts it; what it takes may hang on its register byte
  accepted_now : {C : Type 0} {chip : Ops C} (sits : Sits ops chip) (Takes : ℕ → Type 0) {told : Told (List ℕ)} → answer ≡ told →
      AcceptedIf chip (sits.see b.part) told (Takes (chip.cell (sits.see b.part) 0 259)) → Accepts ops b c answer (sits.number b.part) (Takes (ops.cell b.part (sits.number b.part) 259))
  accepted_now sits Takes is accepted =
      let was = asked sits (now sits b idle_b) in
      record {
        accepts = λ idle takes. is ∙ accepted.accepts (sym was.busy ∙ idle) (subst Takes (was.cell 259) takes);
        accepts_only = λ took. let only = accepted.accepts_only (sym is ∙ took) in (was.busy ∙ only.0, subst Takes (sym (was.cell 259)) only.1);
      }

  -- what stands in a cell of either chip after the data ds, where what stood there before is asked of the part
  stands_now : {C : Type 0} {chip : Ops C} (sits : Sits ops chip) (page first : ℕ) (ds : List ℕ) (i v : ℕ) →
      Stands page first ds i (chip.cell (sits.see b.part) 0 i) v → Stands page first ds i (ops.cell b.part (sits.number b.part) i) v
  stands_now sits page first ds i v = subst (λ old. Stands page first ds i old v) (sym ((asked sits (now sits b idle_b)).cell i))

  -- the memory of either chip, which a write of the data ds left as u
  brings_cells : {C : Type 0} {chip : Ops C} (sits : Sits ops chip) (m page first : ℕ) (ds : List ℕ) {u : C} → m < 128 → AllBytes ds → Owned sits b.part m →
      Now sits b.part (finished ops c (sits.number b.part)) u →
      ((i : ℕ) → Stands page first ds i (chip.cell (sits.see b.part) 0 i) (chip.cell u 0 i)) →
      ((rl : Levels) (i n : ℕ) → i < 256 → Reads chip rl m (i ∷ []) n u (λ j v. v ≡ chip.cell u 0 ((i + j) % 256) % 256)) →
      BringsCells ops b c answer (sits.number b.part) m page first ds
  brings_cells {chip = chip} sits m page first ds {u} few small mine after cells reads rl i n h one =
      let old : ℕ → ℕ = λ k. ops.cell b.part (sits.number b.part) k in
      let stands : (k v : ℕ) → v ≡ chip.cell u 0 k % 256 → Stands page first ds k (old k % 256) v =
      λ k v is.
      let left = stands_now sits page first ds k (chip.cell u 0 k) (cells k) in
      subst (λ x. Stands page first ds k (old k % 256) x) (sym is) (brought page first k ds (old k) (chip.cell u 0 k) small left) in
      brings_now sits rl m (i ∷ []) n (one_byte i h) one few mine after (reads_as (λ j v. stands ((i + j) % 256) v) (reads rl i n h))

  -- the cells of a chip that a write left as u, each of them
  holds_cells : {C : Type 0} {chip : Ops C} (sits : Sits ops chip) (page first : ℕ) (ds : List ℕ) {u : C} → Now sits b.part (finished ops c (sits.number b.part)) u →
      ((i : ℕ) → Stands page first ds i (chip.cell (sits.see b.part) 0 i) (chip.cell u 0 i)) → HoldsCells ops b c answer (sits.number b.part) page first ds
  holds_cells {chip = chip} sits page first ds {u} after cells i =
      subst (λ v. Stands page first ds i (ops.cell b.part (sits.number b.part) i) v) (sym ((asked sits after).cell i)) (stands_now sits page first ds i (chip.cell u 0 i) (cells i))

  ds1846_stores : (sits : Sits ops ds1846) (first : ℕ) (ds : List ℕ) → AllBytes (first ∷ ds) → Owned sits b.part 81 → run ops (writing l 81 (first ∷ ds)) b ≡ (c, answer) →
      Ds1846Stores ops b c answer (sits.number b.part) first ds
  ds1846_stores sits first ds small mine ran =
      let before = now sits b idle_b in
      let chip : Ds1846 = sits.see b.part in
      let job = job_now sits l 81 (first ∷ ds) b small ran (lit< tt) mine before in
      let w : Ds1846 = (written ds1846 l 81 (first ∷ ds) chip).0 in
      let after = finish_now sits job.1 in
      let is = asked sits after in
      let ready = over_ready ds1846_part ds1846_moves w in
      let accepted = accepted_now sits (λ r. Unit {0}) job.0 (ds_accepts l first ds chip low) in
      record {
        accepted = accepted;
        ready = is.busy ∙ ready;
        holds = λ took. holds_cells sits 8 first ds after (ds_cells l first ds chip low (small 0) (sym job.0 ∙ took));
        brings = λ took.
            brings_cells sits 81 8 first ds (lit< tt) (λ k. small (suc k)) mine after
            (ds_cells l first ds chip low (small 0) (sym job.0 ∙ took))
            (λ rl i n. ds_reads rl i n (over ds1846 w) ready);
        wiper_0 = is.tap 0 ∙ tap_capped _ ∙ ap (λ v. min (v % 128) 99) (sym (is.cell 249));
        wiper_1 = is.tap 1 ∙ sym (is.cell 248);
        wiper_2 = is.tap 2 ∙ tap_capped _ ∙ ap (λ v. min (v % 128) 99) (sym (is.cell 250));
      }

  memory_stores : (sits : Sits ops x9520) (first : ℕ) (ds : List ℕ) → AllBytes (first ∷ ds) → Owned sits b.part 80 → run ops (writing l 80 (first ∷ ds)) b ≡ (c, answer) →
      MemoryStores ops b c answer (sits.number b.part) (sits.see b.part) (sits.see (finished ops c (sits.number b.part)).part) first ds
  memory_stores sits first ds small mine ran =
      let before = now sits b idle_b in
      let was = asked sits before in
      let chip : X9520 = sits.see b.part in
      let job = job_now sits l 80 (first ∷ ds) b small ran (lit< tt) mine before in
      let w : X9520 = (written x9520 l 80 (first ∷ ds) chip).0 in
      let after = finish_now sits job.1 in
      let is = asked sits after in
      let ready = over_ready x9520_part x9520_moves w in
      let accepted = accepted_now sits (λ r. MemoryTakes chip.latches.wel r first ds) job.0 (memory_accepts l chip first ds low (small 0)) in
      record {
        accepted = accepted;
        ready = is.busy ∙ ready;
        holds = λ took. holds_cells sits 16 first ds after (memory_cells l chip first ds low (small 0) (sym job.0 ∙ took));
        brings = λ took.
            brings_cells sits 80 16 first ds (lit< tt) (λ k. small (suc k)) mine after
            (memory_cells l chip first ds low (small 0) (sym job.0 ∙ took))
            (λ rl i n. memory_reads rl i n (over x9520 w) ready);
        enabled = λ took wel. ap (λ t. t.latches.wel) after.chip_is ∙ ap (λ k. k.wel) (memory_latches l chip first ds low (sym job.0 ∙ took)) ∙ wel;
        wipers = λ took j. is.tap j ∙ memory_wipers l chip first ds low (sym job.0 ∙ took) j ∙ sym (was.tap j);
      }

  -- a read of a DCP, where the chip is u and not busy
  tap_brought : (sits : Sits ops x9520) (j : ℕ) {d : Board S} {u : X9520} → Owned sits b.part 87 → j < 3 → Now sits b.part d u → Sound u → x9520.busy u 0 ≡ false →
      BringsTap ops b c answer (sits.number b.part) j d
  tap_brought sits j {d} {u} mine in_range at_d sound ready rl x n few names one =
      let same = ap (byte_for (taps_of j)) (sym ((asked sits at_d).tap j)) in
      brings_now sits rl 87 (x ∷ []) n (one_byte x few) one (lit< tt) mine at_d (reads_as (λ i v is. is ∙ same) (wiper_reads rl u x j n names in_range sound ready))

  wiper_stores : (sits : Sits ops x9520) (j : ℕ) (store : Bool) (v : ℕ) → j < 3 → Sound (sits.see b.part) → AllBytes (dcp_byte j store ∷ (v ∷ [])) → Owned sits b.part 87 →
      run ops (writing l 87 (dcp_byte j store ∷ (v ∷ []))) b ≡ (c, answer) → WiperStores ops b c answer (sits.number b.part) (sits.see b.part)
      (sits.see (finished ops c (sits.number b.part)).part) j store v
  wiper_stores sits j store v in_range sound small mine ran =
      let before = now sits b idle_b in
      let chip : X9520 = sits.see b.part in
      let w : X9520 = (job l chip j store v).0 in
      let d : Board S = finished ops c (sits.number b.part) in
      let done = job_now sits l 87 (dcp_byte j store ∷ (v ∷ [])) b small ran (lit< tt) mine before in
      let after : Now sits b.part d (over x9520 w) = finish_now sits done.1 in
      let cut_after : (p : PowerCut) → Now sits b.part (cut ops d p) (x9520.cut (over x9520 w) p) = λ p. cut_now sits after p in
      let was = asked sits before in
      let tap_then = (asked sits done.1).tap in
      let accepted = accepted_now sits (DcpTakes chip.latches.wel) done.0 (wiper_accepts l chip j store v low in_range) in
      let is = asked sits after in
      let ready = over_ready x9520_part x9520_moves w in
      let tap_cut : (p : PowerCut) → ops.tap (cut ops d p).part (sits.number b.part) j ≡ x9520.tap (x9520.cut (over x9520 w) p) 0 j = λ p. (asked sits (cut_after p)).tap j in
      record {
        accepted = accepted;
        moves = λ took. subst (Means (taps_of j) v) (sym (tap_then j)) (wiper_moves l chip j store v low in_range (sym done.0 ∙ took) sound);
        others = λ took i other. tap_then i ∙ wiper_others l chip j store v low in_range (sym done.0 ∙ took) i other ∙ sym (was.tap i);
        finish = λ i. is.tap i ∙ wiper_finish w i ∙ sym (tap_then i);
        brings = λ took. tap_brought sits j mine in_range after (sound_over w (sound_written l chip j store v low in_range (sym done.0 ∙ took) sound)) ready;
        returns = λ took stored p. tap_cut p ∙ wiper_returns l chip j store v low in_range (sym done.0 ∙ took) sound stored p ∙ sym (tap_then j);
        falls_back = λ took unstored p.
            subst (Means (taps_of j) (ops.cell b.part (sits.number b.part) (256 + j))) (sym (tap_cut p))
            (subst (λ x. Means (taps_of j) x (x9520.tap (x9520.cut (over x9520 w) p) 0 j)) (sym (was.cell (256 + j)))
            (wiper_falls_back l chip j store v low in_range (sym done.0 ∙ took) unstored p));
        brings_after = λ p. tap_brought sits j mine in_range (cut_after p) (sound_cut (over x9520 w) p) (cut_free (over x9520 w) p);
        ready = is.busy ∙ ready;
        ready_at_once = λ took unstored. (asked sits done.1).busy ∙ wiper_free l chip j store v low in_range (sym done.0 ∙ took) unstored;
        holds = λ took stored. is.cell (256 + j) ∙ wiper_holds l chip j store v low in_range (sym done.0 ∙ took) stored;
        cells = λ took i other. is.cell i ∙ wiper_cells l chip j store v low in_range (sym done.0 ∙ took) i other ∙ sym (was.cell i);
        enabled = λ took. ap (λ t. t.latches.wel) after.chip_is ∙ wiper_wel l chip j store v low in_range (sym done.0 ∙ took);
      }

  -- after jobs that wrote 02h and 06h from the board b0 on
  register_stores : (sits : Sits ops x9520) (l0 l1 : Levels) (b0 b1 : Board S) (t0 t1 : Told (List ℕ)) (x : ℕ) → l0.wp ≡ false → l1.wp ≡ false → b0.bus ≡ idle_bus →
      run ops (writing l0 82 (255 ∷ (2 ∷ []))) b0 ≡ (b1, t0) → run ops (writing l1 82 (255 ∷ (6 ∷ []))) b1 ≡ (b, t1) → run ops (writing l 82 (255 ∷ (x ∷ []))) b ≡ (c, answer) →
      bit 4 x ≡ false → bit 2 x ≡ true → AllBytes (255 ∷ (x ∷ [])) → Owned sits b.part 82 →
      RegisterStores ops b c answer (sits.number b.part) l b0 (sits.see b0.part) (sits.see (finished ops c (sits.number b.part)).part) t0 t1 x
  register_stores sits l0 l1 b0 b1 t0 t1 x low0 low1 idle_b0 ran0 ran1 ran clear set small mine =
      let two : AllBytes (255 ∷ (2 ∷ [])) = register_bytes 2 (lit< tt) in
      let six : AllBytes (255 ∷ (6 ∷ [])) = register_bytes 6 (lit< tt) in
      let chip : X9520 = sits.see b0.part in
      let kept0 = job_kept sits l0 82 (255 ∷ (2 ∷ [])) b0 two ran0 idle_b0 in
      let kept1 = job_kept sits l1 82 (255 ∷ (6 ∷ [])) b1 six ran1 kept0.0 in
      let kept : Same sits b0.part b.part = same_then sits kept0.1 kept1.1 in
      let mine0 : Owned sits b0.part 82 = sym (kept.owner 82) ∙ mine ∙ ap Some kept.number_is in
      let before = now sits b0 idle_b0 in
      let job0 = job_now sits l0 82 (255 ∷ (2 ∷ [])) b0 two ran0 (lit< tt) mine0 before in
      let job1 = job_now sits l1 82 (255 ∷ (6 ∷ [])) b1 six ran1 (lit< tt) mine0 job0.1 in
      let job2 = job_now sits l 82 (255 ∷ (x ∷ [])) b small ran (lit< tt) mine0 job1.1 in
      let after = finish_now sits job2.1 in
      let was = asked sits before in
      let is = asked sits after in
      let ready = over_ready x9520_part x9520_moves (written x9520 l 82 (255 ∷ (x ∷ [])) (written x9520 l1 82 (255 ∷ (6 ∷ [])) (written x9520 l0 82 (255 ∷ (2 ∷ [])) chip).0).0).0 in
      let stores : RegisterStores ops b c answer (sits.number b0.part) l b0 chip (sits.see (finished ops c (sits.number b0.part)).part) t0 t1 x =
      record {
        accepts = λ idle rwel.
            let told = register_accepts l0 l1 l x chip low0 low1 low clear set (sym was.busy ∙ idle) rwel in
            (job0.0 ∙ told.0, (job1.0 ∙ told.1.0, job2.0 ∙ told.1.1));
        stores = λ took0 took1. is.cell 259 ∙ register_cell l0 l1 l x chip low0 low1 low clear set (sym job0.0 ∙ took0) (sym job1.0 ∙ took1);
        brings = λ took0 took1 rl aim n aims one.
            brings_now sits rl 82 aim n (aim_bytes aim aims) one (lit< tt) mine0 after
            (register_reads l0 l1 l x chip low0 low1 low clear set (sym job0.0 ∙ took0) (sym job1.0 ∙ took1) rl aim n aims);
        ready = is.busy ∙ ready;
        enabled = λ took0 took1. ap (λ t. t.latches.wel) after.chip_is ∙ register_wel l0 l1 l x chip low0 low1 low clear set (sym job0.0 ∙ took0) (sym job1.0 ∙ took1);
        cells = λ took0 took1 i other. is.cell i ∙ register_others l0 l1 l x chip low0 low1 low clear set (sym job0.0 ∙ took0) (sym job1.0 ∙ took1) i other ∙ sym (was.cell i);
        wipers = λ took0 took1 j.
            is.tap j ∙ register_wipers l0 l1 l x chip low0 low1 low clear set (sym job0.0 ∙ took0) (sym job1.0 ∙ took1) j ∙ sym (was.tap j);
      } in
      subst (λ k. RegisterStores ops b c answer k l b0 chip (sits.see (finished ops c k).part) t0 t1 x) (sym kept.number_is) stores

  -- 02h for the register
  register_enables : (sits : Sits ops x9520) → AllBytes (255 ∷ (2 ∷ [])) → Owned sits b.part 82 → run ops (writing l 82 (255 ∷ (2 ∷ []))) b ≡ (c, answer) →
      (sits.see b.part).latches.rwel ≡ false → Enables ops b c answer (sits.number b.part) (sits.see c.part)
  register_enables sits small mine ran rwel =
      let before = now sits b idle_b in
      let was = asked sits before in
      let chip : X9520 = sits.see b.part in
      let job = job_now sits l 82 (255 ∷ (2 ∷ [])) b small ran (lit< tt) mine before in
      let is = asked sits job.1 in
      record {
        accepts = λ idle. job.0 ∙ (enabled_if l chip low rwel (sym was.busy ∙ idle)).took.accepted;
        enabled = λ took. ap (λ t. t.latches.wel) job.1.chip_is ∙ (enabled_if_accepted l chip low rwel (sym job.0 ∙ took)).took.wel_is;
        ready = λ took. is.busy ∙ (enabled_if_accepted l chip low rwel (sym job.0 ∙ took)).free;
        cells = λ took i. is.cell i ∙ (enabled_if_accepted l chip low rwel (sym job.0 ∙ took)).took.cells i ∙ sym (was.cell i);
        wipers = λ took j. is.tap j ∙ (enabled_if_accepted l chip low rwel (sym job.0 ∙ took)).took.wipers j ∙ sym (was.tap j);
      }

  -- any bytes for the DCPs or for the register, and no bytes for either chip
  dcp_accepted : (sits : Sits ops x9520) (first : ℕ) (ds : List ℕ) → AllBytes (first ∷ ds) → Owned sits b.part 87 → run ops (writing l 87 (first ∷ ds)) b ≡ (c, answer) →
      Accepts ops b c answer (sits.number b.part) (NamesDcp first × AtMostOne (λ v. DcpTakes (sits.see b.part).latches.wel (ops.cell b.part (sits.number b.part) 259)) ds)
  dcp_accepted sits first ds small mine ran =
      let chip : X9520 = sits.see b.part in
      let job = job_now sits l 87 (first ∷ ds) b small ran (lit< tt) mine (now sits b idle_b) in
      accepted_now sits (λ r. NamesDcp first × AtMostOne (λ v. DcpTakes chip.latches.wel r) ds) job.0 (dcp_accepts l chip first ds low (small 0))

  register_accepted : (sits : Sits ops x9520) (first : ℕ) (ds : List ℕ) → AllBytes (first ∷ ds) → Owned sits b.part 82 → run ops (writing l 82 (first ∷ ds)) b ≡ (c, answer) →
      Accepts ops b c answer (sits.number b.part) ((first ≡ 255) × AtMostOne (RegisterTakes (sits.see b.part).latches.wel (sits.see b.part).latches.rwel) ds)
  register_accepted sits first ds small mine ran =
      let chip : X9520 = sits.see b.part in
      let job = job_now sits l 82 (first ∷ ds) b small ran (lit< tt) mine (now sits b idle_b) in
      accepted_now sits (λ r. (first ≡ 255) × AtMostOne (RegisterTakes chip.latches.wel chip.latches.rwel) ds) job.0 (register_takes l chip first ds low)

  empty_accepts : {C : Type 0} {chip : Ops C} (sits : Sits ops chip) (m : ℕ) → m < 128 → Owned sits b.part m → run ops (writing l m []) b ≡ (c, answer) →
      AcceptedIf chip (sits.see b.part) (written chip l m [] (sits.see b.part)).1 (Unit {0}) → AcceptsEmpty ops b c answer (sits.number b.part)
  empty_accepts sits m few mine ran = accepted_now sits (λ r. Unit {0}) (job_now sits l m [] b no_bytes ran few mine (now sits b idle_b)).0

  x9520_empty : (sits : Sits ops x9520) (m : ℕ) → X9520Address m → Owned sits b.part m → run ops (writing l m []) b ≡ (c, answer) → AcceptsEmpty ops b c answer (sits.number b.part)
  x9520_empty sits m address mine ran = elim address [
    | inl e ↦ at e (lit< tt) refl
    | inr (inl e) ↦ at e (lit< tt) refl
    | inr (inr e) ↦ at e (lit< tt) refl
  ]
    where
      at : {n : ℕ} → m ≡ n → n < 128 → x9520_part.has (write_byte n / 2) ≡ true → AcceptsEmpty ops b c answer (sits.number b.part)
      at {n} e few has =
          empty_accepts sits n few (subst (Owned sits b.part) e mine) (subst (λ m. run ops (writing l m []) b ≡ (c, answer)) e ran)
          (empty_accepted x9520_part x9520_moves l n (sits.see b.part) has)

  stores : Keeps ops → (a : ℕ) (xs : List ℕ) → AllBytes xs → run ops (writing l a xs) b ≡ (c, answer) → Stores ops l a xs b c answer
  stores keeps a xs small ran =
      record {
        ds1846 = λ number see direct address mine first ds is.
            ds1846_stores (sitting keeps direct) first ds (subst AllBytes is small) mine (at address is);
        memory = λ number see direct address mine first ds is.
            memory_stores (sitting keeps direct) first ds (subst AllBytes is small) mine (at address is);
        wiper = λ number see direct address mine made j store v in_range is.
            wiper_stores (sitting keeps direct) j store v in_range (made_sound ops keeps number see direct.seat b made) (subst AllBytes is small) mine (at address is);
        register = λ number see direct address mine l0 l1 b0 b1 t0 t1 low0 low1 idle_b0 ran0 ran1 x clear set is.
            register_stores (sitting keeps direct) l0 l1 b0 b1 t0 t1 x low0 low1 idle_b0 ran0 ran1 (at address is) clear set (subst AllBytes is small) mine;
        dcp_takes = λ number see direct address mine first ds is. dcp_accepted (sitting keeps direct) first ds (subst AllBytes is small) mine (at address is);
        register_takes = λ number see direct address mine first ds is. register_accepted (sitting keeps direct) first ds (subst AllBytes is small) mine (at address is);
        empty_ds1846 = λ number see direct address mine is.
            empty_accepts (sitting keeps direct) 81 (lit< tt) mine (at address is) (empty_accepted ds1846_part ds1846_moves l 81 (see b.part) refl);
        empty_x9520 = λ number see direct address mine is. x9520_empty (sitting keeps direct) a address mine (at refl is);
        enable = λ number see direct address mine is rwel. register_enables (sitting keeps direct) (subst AllBytes is small) mine (at address is) rwel;
      }
    where
      at : {m : ℕ} {ys : List ℕ} → a ≡ m → xs ≡ ys → run ops (writing l m ys) b ≡ (c, answer)
      at p q = (λ i. run ops (writing l (sym p i) (sym q i)) b) ∙ ran

both_parts : {A B : Type 0} (w : A × B) → w ≡ (w.0, w.1)
both_parts (a, b) = refl

pub every_write : {S : Type 0} (ops : Ops S) → Keeps ops → BringsBack ops
unfolding BringsBack
every_write ops keeps l a xs b low small idle_b = stores b (run ops (writing l a xs) b).0 (run ops (writing l a xs) b).1 l low idle_b keeps a xs small (both_parts (run ops (writing l a xs) b))
