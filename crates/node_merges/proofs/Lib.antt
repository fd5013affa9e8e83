mod MergeSteps
mod CopySteps
