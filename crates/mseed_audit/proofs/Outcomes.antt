-- What an audit of a whole input comes to, by what its calls ensure.
use Rattle.std.proofs.Common.{◌≡◌, ℕ, suc, ◌+◌, List, [], ◌∷◌, length, refl, ap, ◌∙◌}
use Rattle.std.proofs.Common.{Err}
use Rattle.std.specs.List.{count_by, filter}
use Rattle.mseed_record.specs.View.{View}
use Rattle.mseed_stream.specs.Device.{BytesRead, BytesWritten}
use Rattle.mseed_stream.specs.Gathered.{IsCutOff}
use Rattle.mseed_record.specs.Selection.{Selection, asks_for, everything, lacks_time}
use Rattle.mseed_audit.specs.declared.summary.AuditFault.TheVariants.{Write}
use Rattle.mseed_audit.specs.declared.summary.SelectedSummary.{SelectedSummary}
use Rattle.mseed_audit.specs.Channels.{Added, Placed, added_from, numbered}
use Rattle.mseed_audit.specs.Scope.{asked, placed_of, whole}
use Rattle.mseed_audit.specs.Selected.{IsSelectedOutcome}
use Rattle.mseed_audit.specs.private.Gathered.{IsFinished}
pub use Rattle.mseed_audit.proofs.Views.{added_length}

module _ {s : Selection} {h : BytesRead} {found : SelectedSummary} {views : List View} {start text : List ℕ}
    (f : IsFinished s found h views start text) where
  pub timed : found.without_time ≡ count_by (lacks_time s) f.audited.views
  timed = rw f.views_are f.without_time

  -- a part of the text was written
  pub cut_off : (taken : ℕ) (old new : BytesWritten) → start ≡ [] → IsCutOff taken text old new
      → IsSelectedOutcome s (Err (Write taken)) h old new
  cut_off taken old new empty cut = (f.audited, rw (f.text_is, empty) at cut)

-- ---- where all records are asked for
asked_each : (ps : List Placed) → filter (λ p. asks_for everything p.view) ps ≡ ps
asked_each [] = refl
asked_each (p ∷ ps) = ap (λ (qs : List Placed). p ∷ qs) (asked_each ps)

pub numbered_length : (n : ℕ) (added : List Added) → length (numbered n added) ≡ length added
numbered_length n [] = refl
numbered_length n (a ∷ rest) = ap suc (numbered_length (n + 1) rest)

-- all are judged
pub asked_all : asked everything ≡ whole
asked_all = λ i. record {
  judged = λ views. asked_each (placed_of views) i;
  count = λ views.
      (ap (λ (ps : List Placed). length ps) (asked_each (placed_of views)) ∙ numbered_length 1 (added_from 0 views)
      ∙ added_length 0 views) i;
}

-- and none lacks a time
pub none_lacks : (views : List View) → count_by (lacks_time everything) views ≡ 0
none_lacks [] = refl
none_lacks (v ∷ views) = none_lacks views
