use native.Mathlib.Omega.{arith}
use Rattle.abi.proofs.refusal.of_at.Goals as goal

-- `refusal::of_at` meets its contract. Assumes nothing.
pub returns-in-Utf8DecodeFailed : goal.returns-in-Utf8DecodeFailed
returns-in-Utf8DecodeFailed c = rw c.in-Utf8DecodeFailed.is

pub returns-in-FramingDecodeFailed : goal.returns-in-FramingDecodeFailed
returns-in-FramingDecodeFailed c = rw c.in-FramingDecodeFailed.is

pub returns-in-TypeDecodeUnsupported : goal.returns-in-TypeDecodeUnsupported
returns-in-TypeDecodeUnsupported c = rw c.in-TypeDecodeUnsupported.is

pub returns-in-TypeDecodeParameterMissing : goal.returns-in-TypeDecodeParameterMissing
returns-in-TypeDecodeParameterMissing c = rw c.in-TypeDecodeParameterMissing.is (omega arith)

pub returns-in-TypeDecodeParameterDataTypeInvalid : goal.returns-in-TypeDecodeParameterDataTypeInvalid
returns-in-TypeDecodeParameterDataTypeInvalid c = rw c.in-TypeDecodeParameterDataTypeInvalid.is (omega (arith, c.reason.ensures.0))

pub returns-in-EventUnknown : goal.returns-in-EventUnknown
returns-in-EventUnknown c = rw c.in-EventUnknown.is
