use Rattle.std.proofs.Common.{◌∷◌, [], codes, refl, subst}
use Rattle.mseed_files.specs.Found.{bytes_of}
use Rattle.mseed_stream.specs.Device.{nothing_read}
use Rattle.mseed_words.specs.Words.{CanBeCalled}
use Rattle.mseed.proofs.Done.{done}
use Rattle.mseed.proofs.ReadFiles.{read_of}
use Rattle.mseed.proofs.effect.execute.Goals as goal

pub returns-in_ok-input-in-Serve-clause-done : goal.returns-in_ok-input-in-Serve-clause-done
returns-in_ok-input-in-Serve-clause-done g c =
    let found = g.F.Files.found c.args.files.now in
    rw c.in-Serve.is (
      c.serve.ensures.0,
      (
        read_of (bytes_of (found (codes "-")) ∷ []) (g.F.Files.failures c.args.files.now) _ c.serve.ensures.0
            c.in_ok-input-in-Serve.ensures c.serve.ensures.1,
        c.serve.ensures.2,
        refl,
      ),
    )

pub returns-in-Live-clause-done : goal.returns-in-Live-clause-done
returns-in-Live-clause-done g c =
    rw c.in-Live.is (nothing_read, (c.serve_live_at.ensures.planned, c.serve_live_at.ensures.served, refl))

pub returns-in-Fetch-clause-done : goal.returns-in-Fetch-clause-done
returns-in-Fetch-clause-done g c = rw c.in-Fetch.is (nothing_read, c.fetch.ensures)

pub returns-in_ok-run_over_named-in_default-clause-done : goal.returns-in_ok-run_over_named-in_default-clause-done
returns-in_ok-run_over_named-in_default-clause-done g c =
    let run = c.in_ok-run_over_named-in_default.ensures.ok in (
      run.0,
      done (g.F.Files.found c.args.files.now) _ c.args.command.now.request _ _ _ _ _ _ _ c.in_default.not-Serve
          c.in_default.not-Live c.in_default.not-Fetch run.1 refl,
    )

pub serve-requires-clause-called : goal.serve-requires-clause-called
serve-requires-clause-called g c = subst CanBeCalled c.in-Serve.is c.requires.called
