use Rattle.pcap.proofs.NumberLaws.{low_number, high_number}
use Rattle.pcap.proofs.number.Ordered.number_at.Goals as goal

pub returns-in-Little : goal.returns-in-Little
returns-in-Little c =
    let a = c.args in
    rw c.in-Little.is (low_number a.self.bytes.now a.at a.width c.requires.room c.requires.fits _ c.copy_from_slice.ensures.after _ c.from_le_bytes.ensures)

pub returns-in-Big : goal.returns-in-Big
returns-in-Big c =
    let a = c.args in
    rw c.in-Big.is (high_number a.self.bytes.now a.at a.width c.requires.room c.requires.fits _ c.copy_from_slice-in-Big.ensures.after _ c.from_be_bytes.ensures)
