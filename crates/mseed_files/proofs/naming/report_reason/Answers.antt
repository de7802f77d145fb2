use Rattle.mseed_files.proofs.naming.report_reason.Goals as goal

pub returns-in-Read : goal.returns-in-Read
returns-in-Read g c =
    let chain = rw c.source-chain.ensures at c.failed.ensures.chain in
    let file = rw c.source-chain.ensures at c.failed.ensures.file in
    rw c.in-Read.is (chain, (c.reason.result, rw file at c.report_failure.ensures))
